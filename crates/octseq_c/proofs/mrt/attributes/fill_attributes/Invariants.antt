-- The rows so far, and those of the attributes that are left, are all rows. What follows them is unchanged.
use Rattle.std.proofs.Common.{◌≡◌, ◌+◌, ◌++◌, map, take, drop, length}
use Rattle.octseq_mrt.specs.Parsed.{attributes_left}
use Rattle.octseq_c.specs.BgpRows.{row_of_attribute}
use Rattle.octseq_c.proofs.mrt.attributes.fill_attributes.Given as goal

abbrev pub invariant-loop-attribute : goal.invariant-loop-attribute
invariant-loop-attribute g l = record {
  end : l.at + length (attributes_left l.attribute-iterator) ≡ l.fn.from + length (attributes_left l.fn.attributes);
  whole : take l.at l.out ++ map row_of_attribute (attributes_left l.attribute-iterator)
      ≡ take l.fn.from l.fn.out ++ map row_of_attribute (attributes_left l.fn.attributes);
  rest : drop l.at l.out ≡ drop l.at l.fn.out;
  long : length l.out ≡ length l.fn.out;
}
