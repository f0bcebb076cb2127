-- The octets counted so far, and those of what is ahead, are all.
use Rattle.std.proofs.Common.{◌≡◌, ◌+◌, false, length}
use Rattle.octseq_bgp.specs.Lists.{parameters_left}
use Rattle.octseq_bgp.specs.RewrittenOpen.{said_octets}
use Rattle.octseq_bgp.proofs.message.rewriting.open.parameters_len.Given as goal

abbrev pub invariant-parameters : goal.invariant-parameters
invariant-parameters g l = l.len + length (said_octets false (parameters_left l.ahead))
    ≡ length (said_octets false (parameters_left l.fn.parameters))

abbrev pub decreases-parameters : goal.decreases-parameters
decreases-parameters g l = length (parameters_left l.ahead)
