use Rattle.std.proofs.Common.{◌≡◌, map, length}
use Rattle.octseq_dns_text.specs.KeyText.{key_named}
use Rattle.octseq_dns_text.proofs.params.key.named_key.Given as goal

abbrev pub invariant-loop-names : goal.invariant-loop-names
invariant-loop-names l = key_named (map (λ named. (named.0, named.1.now)) l.names) l.name
    ≡ key_named (map (λ named. (named.0, named.1.now)) l.fn.names) l.name

abbrev pub decreases-loop-names : goal.decreases-loop-names
decreases-loop-names l = length l.names
