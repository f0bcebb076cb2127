-- The octets so far say that others follow.
use Rattle.std.proofs.Common.{ℕ, ◌<◌, ◌≤◌, slice_index}
use Rattle.octseq_format.proofs.leb128.chain_len.Given as goal

abbrev pub invariant-loop-offset : goal.invariant-loop-offset
invariant-loop-offset g l = (j : ℕ) → j < l.offset → 128 ≤ slice_index l.octets j
