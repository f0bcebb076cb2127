-- The attributes that were counted, and those of the entries that are left, are all. Few turns are left.
use Rattle.std.proofs.Common.{◌≡◌, ◌+◌, ◌≤◌, length, flat_map}
use Rattle.octseq_mrt.specs.Parsed.{entries_left}
use Rattle.octseq_mrt.specs.ReadTurns.{entries_turns}
use Rattle.octseq_c.specs.MrtRows.{rows_of_attributes}
use Rattle.octseq_c.proofs.mrt.attributes.entries_count.Given as goal

abbrev pub invariant-loop-entry : goal.invariant-loop-entry
invariant-loop-entry g l = record {
  all : l.count + length (flat_map rows_of_attributes (entries_left l.entry-iterator))
      ≡ length (flat_map rows_of_attributes (entries_left l.fn.entries));
  few : l.count + entries_turns (entries_left l.entry-iterator) ≤ entries_turns (entries_left l.fn.entries);
}
