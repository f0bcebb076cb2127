-- What was counted, and any rows of what is ahead, are rows of all.
use Rattle.std.proofs.Common.{◌≡◌, ◌+◌, ◌++◌, ◌≤◌, List, length}
use Rattle.octseq_bgp.specs.Lists.{attributes_left, attributes_session}
use Rattle.octseq_c.specs.BgpRoom.{attributes_room}
use Rattle.octseq_c.specs.BgpRows.{AreAttributeRows}
use Rattle.octseq_c.specs.declared.bgp.rows.BgpRow.{BgpRow}
use Rattle.octseq_c.proofs.bgp.rows.attributes_count.Given as goal

abbrev pub invariant-attributes : goal.invariant-attributes
invariant-attributes g l = record {
  done : List BgpRow;
  session : attributes_session l.ahead ≡ attributes_session l.fn.attributes;
  whole : (more : List BgpRow) → AreAttributeRows (attributes_session l.fn.attributes) (attributes_left l.ahead) more
      → AreAttributeRows (attributes_session l.fn.attributes) (attributes_left l.fn.attributes) (done ++ more);
  count : l.count ≡ length done;
  room : l.count + attributes_room (attributes_left l.ahead) ≤ attributes_room (attributes_left l.fn.attributes);
}

abbrev pub decreases-attributes : goal.decreases-attributes
decreases-attributes g l = length (attributes_left l.ahead)
