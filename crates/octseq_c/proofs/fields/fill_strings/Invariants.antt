-- The rows so far, and those of the strings that are left, are all rows. What follows them is unchanged.
use Rattle.std.proofs.Common.{◌≡◌, ◌+◌, ◌++◌, map, take, drop, length}
use Rattle.octseq_format.specs.Walk.{items_left}
use Rattle.octseq_c.specs.Fields.{range_row}
use Rattle.octseq_c.proofs.fields.fill_strings.Given as goal

abbrev pub invariant-loop-string : goal.invariant-loop-string
invariant-loop-string g l = record {
  end : l.at + length (items_left l.string-iterator) ≡ l.fn.from + length (items_left l.fn.strings);
  whole : take l.at l.out ++ map (range_row 3) (items_left l.string-iterator)
      ≡ take l.fn.from l.fn.out ++ map (range_row 3) (items_left l.fn.strings);
  rest : drop l.at l.out ≡ drop l.at l.fn.out;
  long : length l.out ≡ length l.fn.out;
}
