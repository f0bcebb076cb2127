-- The octets are a type bitmap exactly if those that are left go on with window blocks, of which a turn was counted for
-- each before them.
use Rattle.std.proofs.Common.{◌+◌, ◌*◌, ◌≤◌, List, length}
use Rattle.octseq_dns_data.specs.RtypeBitmap.{AreBlocksFrom, HasBlocksFrom, IsRtypeBitmap, WindowBlock, bitmap_turns}
use Rattle.octseq_dns_data.proofs.rtype_bitmap.blocks.is_bitmap.Given as goal

abbrev pub invariant-loop-block : goal.invariant-loop-block
invariant-loop-block l = record {
  whole : HasBlocksFrom l.least l.rest → IsRtypeBitmap l.octets;
  only : IsRtypeBitmap l.octets → HasBlocksFrom l.least l.rest;
  turns : 3 * l.turns + length l.rest ≤ 3 * l.initial.turns + length l.octets;
  counted : l.initial.turns ≤ l.turns;
  least : (blocks : List WindowBlock) → AreBlocksFrom l.least l.rest blocks
      → l.initial.turns + bitmap_turns l.octets ≤ l.turns + length blocks;
}

abbrev pub decreases-loop-block : goal.decreases-loop-block
decreases-loop-block l = length l.rest
