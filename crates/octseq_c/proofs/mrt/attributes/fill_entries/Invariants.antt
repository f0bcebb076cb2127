-- The rows that were written, and those of the entries that are left, are all rows. What follows them is unchanged.
use Rattle.std.proofs.Common.{◌≡◌, ◌++◌, List, drop, length, flat_map}
use Rattle.octseq_mrt.specs.Parsed.{entries_left}
use Rattle.octseq_c.specs.MrtRows.{rows_of_attributes}
use Rattle.octseq_c.specs.declared.bgp.rows.BgpRow.{BgpRow}
use Rattle.octseq_c.proofs.mrt.attributes.fill_entries.Given as goal

abbrev pub invariant-loop-entry : goal.invariant-loop-entry
invariant-loop-entry g l = record {
  done : List BgpRow;
  whole : done ++ flat_map rows_of_attributes (entries_left l.entry-iterator)
      ≡ flat_map rows_of_attributes (entries_left l.fn.entries);
  offset : l.at ≡ length done;
  written : l.out ≡ done ++ drop l.at l.fn.out;
  long : length l.out ≡ length l.fn.out;
}
