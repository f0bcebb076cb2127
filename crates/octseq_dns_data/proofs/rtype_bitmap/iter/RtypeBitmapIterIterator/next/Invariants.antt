-- The types that are left don't change.
use Rattle.std.proofs.Common.{◌≡◌, length}
use Rattle.octseq_dns_data.specs.RtypeBitmapOf.{rtypes_left}
use Rattle.octseq_dns_data.proofs.rtype_bitmap.iter.RtypeBitmapIterIterator.next.Given as goal

abbrev pub invariant-loop-place : goal.invariant-loop-place
invariant-loop-place l = rtypes_left l.initial.self ≡ rtypes_left l.self

abbrev pub decreases-loop-place : goal.decreases-loop-place
decreases-loop-place l = length l.self.rest.now
