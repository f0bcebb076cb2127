-- What was appended is the number, the size and the octets so far.
use Rattle.std.proofs.Common.{◌≡◌, ◌++◌, ◌∷◌}
use Rattle.octseq_dns_data.specs.RtypeBitmapMade.{window_octets}
use Rattle.octseq_dns_data.proofs.rtype_bitmap.build.append_block.Given as goal

abbrev pub invariant-loop-place : goal.invariant-loop-place
invariant-loop-place l = l.octets.content
    ≡ l.fn.octets.content ++ (l.number ∷ l.size ∷ window_octets l.rtypes l.number l.place)
