-- What contracts see of type bitmaps.
use Rattle.std.specs.Prelude.{ℕ, List, ◌++◌}
use Rattle.octseq.specs.declared.AsOctets.{Ghosts}
use Rattle.octseq.specs.Parser.{window}
use Rattle.octseq.specs.Window.{Window, rest}
use Rattle.octseq_dns_data.specs.RtypeBitmap as said
use Rattle.octseq_dns_data.specs.RtypeBitmap.{places_from, types_at, types_of}
use Rattle.octseq_dns_data.specs.declared.rtype_bitmap.RtypeBitmap.{RtypeBitmap}
use Rattle.octseq_dns_data.specs.declared.rtype_bitmap.blocks.WindowBlock.{WindowBlock}
use Rattle.octseq_dns_data.specs.declared.rtype_bitmap.iter.RtypeBitmapIter.{RtypeBitmapIter}

-- a window block, by its octets
abbrev pub block_of : WindowBlock → said.WindowBlock
block_of block = record { number = block.number; bitmap = block.bitmap.now }

-- the window of the octets of a bitmap
abbrev pub bitmap_place : {R : Type 0} {g : Ghosts R} → RtypeBitmap R g → Window
bitmap_place bitmap = window bitmap.parser

-- the octets of a bitmap
abbrev pub bitmap_octets : {R : Type 0} {g : Ghosts R} → RtypeBitmap R g → List ℕ
bitmap_octets bitmap = rest (bitmap_place bitmap)

-- the types of a bitmap, ascending
abbrev pub rtypes_of : {R : Type 0} {g : Ghosts R} → RtypeBitmap R g → List ℕ
rtypes_of bitmap = types_of (bitmap_octets bitmap)

-- the types that an iterator has left
abbrev pub rtypes_left : RtypeBitmapIter → List ℕ
rtypes_left iter = types_at iter.number (places_from iter.bitmap.now iter.place) ++ types_of iter.rest.now
