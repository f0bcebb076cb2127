-- The size so far, and that of the types that are left, are the whole size.
use Rattle.std.proofs.Common.{◌≡◌, ◌≤◌, drop, max}
use Rattle.octseq_dns_data.specs.RtypeBitmapMade.{bitmap_size}
use Rattle.octseq_dns_data.proofs.rtype_bitmap.build.bitmap_size.Given as goal

abbrev pub invariant-loop-rtype : goal.invariant-loop-rtype
invariant-loop-rtype l = record {
  size : max l.size (bitmap_size l.number (drop l.rtype-index l.rtypes)) ≡ bitmap_size l.number l.rtypes;
  most : l.size ≤ 32;
}
