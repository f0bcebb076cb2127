-- Those that were counted, and those that are left, are all.
use Rattle.std.proofs.Common.{◌≡◌, ◌+◌, length}
use Rattle.octseq_mrt.specs.Parsed.{entries_left}
use Rattle.octseq_c.proofs.mrt.rows.entries_count.Given as goal

abbrev pub invariant-loop-entry : goal.invariant-loop-entry
invariant-loop-entry g l = record {
  all : l.count + length (entries_left l._entry-iterator) ≡ length (entries_left l.fn.entries);
}
