-- The text of what is settled, and what becomes of the open end, are the text of the whole.
use Rattle.std.specs.Prelude.{◌==◌}
use Rattle.std.proofs.Common.{Bool, true, false, ◌≡◌, ◌≢◌, ℕ, List, [], ◌∷◌, ◌++◌, length, refl, arith, ap, sym, ◌∙◌}
use Rattle.std.proofs.Common.{append_assoc}
use Rattle.std.proofs.lemmas.List.{append-nil}
use Rattle.std.specs.List.{concat}
use Rattle.octseq_utf8.specs.Encoding.{encoding_of}
use Rattle.octseq_utf8.specs.Parts.{Part, Bad, text}
use Rattle.octseq_utf8.specs.Reading.{parts_of}
use Rattle.octseq_utf8.proofs.Splitting.{parts_nil, one_splitting}
use Rattle.octseq_text.specs.Pieces.{Settles, open_end, no_end}
use Rattle.octseq_text.specs.Progress.{IsOpenEnd}
use Rattle.octseq_text.proofs.BadParts.{parts_self}
use Rattle.octseq_text.proofs.Settling.{settles_reads, settles_end, text-append}
use Rattle.octseq_c.specs.LossyText.{IsLossyText, IsTextOfPieces, end_text}

-- what is written for an open end is the text of its parts
end_parts : (q : List ℕ) → IsOpenEnd q → end_text q ≡ text (parts_of q)
end_parts [] o = ap text (sym parts_nil)
end_parts (a ∷ q) o =
    let some : a ∷ q ≢ [] = λ e. let long = ap length e in absurd (omega arith) in
    sym (append-nil (encoding_of 0xFFFD)) ∙ ap text (sym (parts_self (a ∷ q) (o some)))

-- the text of what is held and of pieces, however they are split, is that of the whole
pub whole_pieces : (held : List ℕ) (pieces : List (List ℕ)) (made : List ℕ) → IsOpenEnd held
    → IsTextOfPieces held pieces made → made ≡ text (parts_of (held ++ concat pieces))
whole_pieces held [] made o e = e ∙ end_parts held o ∙ ap (λ y. text (parts_of y)) (sym (append-nil held))
whole_pieces held (piece ∷ pieces) made o (settled, end, more, s, m, e) =
    let rest : more ≡ text (parts_of (end ++ concat pieces)) = whole_pieces end pieces more (settles_end s) m in
    e ∙ ap (λ y. text settled ++ y) rest ∙ sym (text-append settled (parts_of (end ++ concat pieces)))
    ∙ ap text (sym ((settles_reads s).whatever (concat pieces)))
    ∙ ap (λ y. text (parts_of y)) (append_assoc held piece (concat pieces))

-- what is settled and the open end make the lossy text
pub whole_text : {x q : List ℕ} {settled : List Part} → Settles x settled q
    → IsLossyText x (text settled ++ end_text q)
whole_text (open_end {end = []} {settled = settled} s b) = absurd (b.some refl)
whole_text (open_end {end = a ∷ q} {settled = settled} s b) = (
  settled ++ Bad (a ∷ q) ∷ [],
  s,
  ap (λ y. text settled ++ y) (sym (append-nil (encoding_of 0xFFFD)))
      ∙ sym (text-append settled (Bad (a ∷ q) ∷ [])),
)
whole_text (no_end {parts = parts} s n) = (parts, s, append-nil (text parts))

-- octets have one lossy text
pub one_lossy_text : (x made other : List ℕ) → IsLossyText x made → IsLossyText x other → made ≡ other
one_lossy_text x made other (parts, s, e) (others, t, f) = e ∙ ap text (one_splitting s t) ∙ sym f

-- U+FFFD, as it is written
pub replacement_is : encoding_of 0xFFFD ≡ 0xEF ∷ 0xBF ∷ 0xBD ∷ []
unfolding encoding_of
replacement_is = refl

pub replaced : (end : List ℕ) (test : Bool) → test ≡ (length end == 0) → test ≡ false
    → 0xEF ∷ 0xBF ∷ 0xBD ∷ [] ≡ end_text end
replaced [] test e f = let no : true ≡ false = sym e ∙ f in absurd (cc)
replaced (a ∷ end) test e f = sym replacement_is
