-- The rows so far, and those of the parameters that are left, are all rows. What follows them is unchanged.
use Rattle.std.proofs.Common.{◌≡◌, ◌+◌, ◌++◌, map, take, drop, length}
use Rattle.octseq_format.specs.Walk.{items_left}
use Rattle.octseq_c.specs.Fields.{parameter_row}
use Rattle.octseq_c.proofs.fields.fill_parameters.Given as goal

abbrev pub invariant-loop-param : goal.invariant-loop-param
invariant-loop-param g l = record {
  end : l.at + length (items_left l.param-iterator) ≡ l.fn.from + length (items_left l.fn.params);
  whole : take l.at l.out ++ map parameter_row (items_left l.param-iterator)
      ≡ take l.fn.from l.fn.out ++ map parameter_row (items_left l.fn.params);
  rest : drop l.at l.out ≡ drop l.at l.fn.out;
  long : length l.out ≡ length l.fn.out;
}
