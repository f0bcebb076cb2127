-- What the parts so far leave.
use Rattle.std.proofs.Common.{◌≡◌, ◌+◌, length, take}
use Rattle.octseq_mrt.specs.Joined.{parts_joined}
use Rattle.octseq_mrt.proofs.builder.parts.are_within.Given as goal

abbrev pub invariant-loop-part : goal.invariant-loop-part
invariant-loop-part l = l.left + length (parts_joined (take l.part-index l.parts)) ≡ l.fn.most
