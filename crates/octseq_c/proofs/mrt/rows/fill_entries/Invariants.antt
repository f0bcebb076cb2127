-- The rows so far, and those of the entries that are left, are all rows. What follows them is unchanged.
use Rattle.std.proofs.Common.{◌≡◌, ◌+◌, ◌≤◌, ◌++◌, map, take, drop, length}
use Rattle.octseq_mrt.specs.Parsed.{entries_left}
use Rattle.octseq_mrt.specs.ReadTurns.{entries_turns}
use Rattle.octseq_c.specs.MrtRows.{row_of_entry}
use Rattle.octseq_c.proofs.mrt.rows.fill_entries.Given as goal

abbrev pub invariant-loop-entry : goal.invariant-loop-entry
invariant-loop-entry g l = record {
  few : entries_turns (entries_left l.entry-iterator) ≤ entries_turns (entries_left l.fn.entries);
  end : l.at + length (entries_left l.entry-iterator) ≡ l.fn.from + length (entries_left l.fn.entries);
  whole : take l.at l.out ++ map row_of_entry (entries_left l.entry-iterator)
      ≡ take l.fn.from l.fn.out ++ map row_of_entry (entries_left l.fn.entries);
  rest : drop l.at l.out ≡ drop l.at l.fn.out;
  long : length l.out ≡ length l.fn.out;
}
