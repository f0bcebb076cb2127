use Rattle.std.proofs.Common.{◌≡◌, ◌++◌}
use Rattle.std.specs.List.{flat_map}
use Rattle.octseq.specs.Integer.{octets_be}
use Rattle.octseq_dns_text.proofs.params.mandatory.keys_octets.Given as goal

abbrev pub invariant-loop-key : goal.invariant-loop-key
invariant-loop-key l =
    l.octets.items ++ flat_map (octets_be 2) l.key-iterator ≡ flat_map (octets_be 2) l.set.keys
