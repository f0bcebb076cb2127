-- The rows so far, and those of the records that are left, are all rows. What follows them is unchanged.
use Rattle.std.proofs.Common.{◌≡◌, ◌+◌, ◌++◌, map, take, drop, length}
use Rattle.octseq_dns_message.specs.Walk.{records_left}
use Rattle.octseq_c.specs.Rows.{row_of_record}
use Rattle.octseq_c.proofs.rows.fill_records.Given as goal

abbrev pub invariant-loop-entry : goal.invariant-loop-entry
invariant-loop-entry l = record {
  end : l.at + length (records_left l.entry-iterator) ≡ l.fn.from + length (records_left l.fn.records);
  whole : take l.at l.out ++ map (row_of_record l.section) (records_left l.entry-iterator)
      ≡ take l.fn.from l.fn.out ++ map (row_of_record l.section) (records_left l.fn.records);
  rest : drop l.at l.out ≡ drop l.at l.fn.out;
  long : length l.out ≡ length l.fn.out;
}
