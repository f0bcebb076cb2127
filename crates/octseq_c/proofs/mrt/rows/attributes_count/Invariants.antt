-- Those that were counted, and those that are left, are all.
use Rattle.std.proofs.Common.{◌≡◌, ◌+◌, length}
use Rattle.octseq_mrt.specs.Parsed.{attributes_left}
use Rattle.octseq_c.proofs.mrt.rows.attributes_count.Given as goal

abbrev pub invariant-loop-attribute : goal.invariant-loop-attribute
invariant-loop-attribute g l = record {
  all : l.count + length (attributes_left l._attribute-iterator) ≡ length (attributes_left l.fn.attributes);
}
