-- No bit is set from the place on up to where the search is.
use Rattle.std.proofs.Common.{◌≡◌}
use Rattle.octseq_dns_data.specs.RtypeBitmap.{places_from}
use Rattle.octseq_dns_data.proofs.rtype_bitmap.iter.next_place.Given as goal

abbrev pub invariant-loop-next : goal.invariant-loop-next
invariant-loop-next l = places_from l.bitmap l.place ≡ places_from l.bitmap l.next
