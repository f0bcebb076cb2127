-- The octet has the bits so far.
use Rattle.std.proofs.Common.{◌≡◌}
use Rattle.octseq_dns_data.specs.RtypeBitmapMade.{bits_number, is_among}
use Rattle.octseq_dns_data.proofs.rtype_bitmap.build.octet_of.Given as goal

abbrev pub invariant-loop-count : goal.invariant-loop-count
invariant-loop-count l = l.octet ≡ bits_number (is_among l.rtypes) l.rtype l.count
