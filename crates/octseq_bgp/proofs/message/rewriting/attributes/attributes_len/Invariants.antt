-- The octets counted so far, and those of what is ahead, are all.
use Rattle.std.proofs.Common.{◌≡◌, ◌+◌, length}
use Rattle.octseq_bgp.specs.Lists.{attributes_left}
use Rattle.octseq_bgp.specs.Rewritten.{attributes_size}
use Rattle.octseq_bgp.proofs.message.rewriting.attributes.attributes_len.Given as goal

abbrev pub invariant-attributes : goal.invariant-attributes
invariant-attributes g l =
    l.len + attributes_size (attributes_left l.ahead) ≡ attributes_size (attributes_left l.fn.attributes)

abbrev pub decreases-attributes : goal.decreases-attributes
decreases-attributes g l = length (attributes_left l.ahead)
