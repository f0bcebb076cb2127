-- The rows that were written, and any rows of what is ahead, are rows of all. There is room for those of what is ahead.
use Rattle.std.proofs.Common.{◌≡◌, ◌+◌, ◌++◌, ◌≤◌, List, take, drop, length}
use Rattle.octseq_bgp.specs.Lists.{attributes_left, attributes_session}
use Rattle.octseq_c.specs.BgpRows.{AreAttributeRows}
use Rattle.octseq_c.specs.declared.bgp.rows.BgpRow.{BgpRow}
use Rattle.octseq_c.proofs.bgp.rows.fill_attributes.Given as goal

abbrev pub invariant-attributes : goal.invariant-attributes
invariant-attributes g l = record {
  done : List BgpRow;
  more : List BgpRow;
  session : attributes_session l.ahead ≡ attributes_session l.fn.attributes;
  ahead : AreAttributeRows (attributes_session l.fn.attributes) (attributes_left l.ahead) more;
  room : l.at + length more ≤ length l.fn.out;
  whole : (more : List BgpRow) → AreAttributeRows (attributes_session l.fn.attributes) (attributes_left l.ahead) more
      → AreAttributeRows (attributes_session l.fn.attributes) (attributes_left l.fn.attributes) (done ++ more);
  offset : l.at ≡ l.fn.from + length done;
  written : l.out ≡ (take l.fn.from l.fn.out ++ done) ++ drop l.at l.fn.out;
}

abbrev pub decreases-attributes : goal.decreases-attributes
decreases-attributes g l = length (attributes_left l.ahead)
