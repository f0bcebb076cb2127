-- What is written, and the text of the types that are left, are the whole text.
use Rattle.std.proofs.Common.{◌≡◌, ℕ, List, ◌++◌}
use Rattle.std.specs.Fmt.{HasWritten, IsPlainFormatter}
use Rattle.octseq_dns_data.specs.RtypeBitmapOf.{rtypes_left, rtypes_of}
use Rattle.octseq_dns_data.specs.RtypeBitmapText.{rtypes_text}
use Rattle.octseq_dns_data.proofs.rtype_bitmap.RtypeBitmapDisplay.fmt.Given as goal

abbrev pub invariant-loop-rtype : goal.invariant-loop-rtype
invariant-loop-rtype g l =
    IsPlainFormatter l.fn.f → (done : List ℕ) × HasWritten g.W.Write.write_str_gives l.fn.f done l.f
    × (done ++ rtypes_text (rtypes_left l.rtype-iterator) ≡ rtypes_text (rtypes_of l.fn.self))
