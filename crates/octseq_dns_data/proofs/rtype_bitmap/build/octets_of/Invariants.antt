-- What was appended are the window blocks so far.
use Rattle.std.proofs.Common.{◌≡◌, ◌*◌, ◌≤◌, length}
use Rattle.std.specs.List.{flat_map, range_with_len}
use Rattle.octseq_dns_data.specs.RtypeBitmap.{block_octets}
use Rattle.octseq_dns_data.specs.RtypeBitmapMade.{window_blocks}
use Rattle.octseq_dns_data.proofs.rtype_bitmap.build.octets_of.Given as goal

abbrev pub invariant-loop-number : goal.invariant-loop-number
invariant-loop-number l = record {
  octets : l.octets.content ≡ flat_map block_octets (flat_map (window_blocks l.rtypes) (range_with_len 0 l.number));
  most : length l.octets.content ≤ 34 * l.number;
}
