use Rattle.std.proofs.Common.{◌≡◌, map, length}
use Rattle.octseq_dns_data.specs.Mnemonic.{number_in}
use Rattle.octseq_dns_data.proofs.mnemonic.number_of.Given as goal

abbrev pub invariant-loop-names : goal.invariant-loop-names
invariant-loop-names l = number_in (map (λ named. (named.0, named.1.now)) l.names) l.text
    ≡ number_in (map (λ named. (named.0, named.1.now)) l.fn.names) l.text

abbrev pub decreases-loop-names : goal.decreases-loop-names
decreases-loop-names l = length l.names
