-- The octets from an offset on were read.
use Rattle.std.proofs.Common.{◌≡◌, ◌≤◌, length, drop}
use Rattle.octseq_format.specs.Leb128.{leb128}
use Rattle.octseq_format.proofs.leb128.groups_value.Given as goal

abbrev pub invariant-loop-offset : goal.invariant-loop-offset
invariant-loop-offset l = (l.number ≡ leb128 (drop l.offset l.octets)) × (l.offset ≤ length l.octets)

abbrev pub decreases-loop-offset : goal.decreases-loop-offset
decreases-loop-offset l = l.offset
