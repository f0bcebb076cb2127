use Rattle.std.proofs.Common.{◌≡◌, map, length}
use Rattle.octseq_dns_data.specs.Mnemonic.{name_in}
use Rattle.octseq_dns_data.proofs.mnemonic.name_of.Given as goal

abbrev pub invariant-loop-names : goal.invariant-loop-names
invariant-loop-names l = name_in (map (λ named. (named.0, named.1.now)) l.names) l.number
    ≡ name_in (map (λ named. (named.0, named.1.now)) l.fn.names) l.number

abbrev pub decreases-loop-names : goal.decreases-loop-names
decreases-loop-names l = length l.names
