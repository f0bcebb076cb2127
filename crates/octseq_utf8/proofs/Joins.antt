-- Splittings and lossy texts of joined octets.
use Rattle.std.proofs.Common.{◌≡◌, ℕ, List, [], ◌∷◌, ◌++◌, map, refl, ap, sym, ◌∙◌, append_assoc}
use Rattle.std.proofs.lemmas.List.{append-nil}
use Rattle.std.specs.List.{concat, AllByRecursion}
use Rattle.octseq_utf8.specs.Encoding.{IsEncoding, number_of, encoding_of}
use Rattle.octseq_utf8.specs.Parts.{IsBadPart, Part, Char, Bad, text_with}
use Rattle.octseq_utf8.specs.Reading.{parts_of}
use Rattle.octseq_utf8.specs.Text.{Spells, octets_of}
use Rattle.octseq_utf8.proofs.Spelling.{octets_of_spelled}
use Rattle.octseq_utf8.proofs.Splitting.{parts_encoding, parts_bad, parts_nil}

-- the octets of some encodings and a rest split into the characters of the encodings, and then like the rest
join_encodings : (es : List (List ℕ)) → AllByRecursion IsEncoding es → (r : List ℕ)
    → parts_of (concat es ++ r) ≡ map Char (map number_of es) ++ parts_of r
join_encodings [] h r = refl
join_encodings (e ∷ es) h r =
    ap parts_of (append_assoc e (concat es) r) ∙ parts_encoding h.0 (concat es ++ r)
    ∙ ap (λ ps. Char (number_of e) ∷ ps) (join_encodings es h.1 r)

-- a well-formed front, and then like the rest
pub parts_front : {x cs : List ℕ} → Spells x cs → (r : List ℕ) → parts_of (x ++ r) ≡ map Char cs ++ parts_of r
parts_front {x} {cs} s r =
    ap (λ y. parts_of (y ++ r)) (sym s.joined) ∙ join_encodings s.encodings s.each r
    ∙ ap (λ y. map Char y ++ parts_of r) s.numbers

-- and at a fault: the characters before it, the bad part, and then like the rest
pub parts_fault : {x cs : List ℕ} → Spells x cs → (p r : List ℕ) → IsBadPart (p ++ r) p
    → parts_of (x ++ (p ++ r)) ≡ map Char cs ++ (Bad p ∷ parts_of r)
parts_fault {x} {cs} s p r b = parts_front s (p ++ r) ∙ ap (λ ps. map Char cs ++ ps) (parts_bad p r b)

-- the text of characters is their octets
pub text-chars : (w : ℕ) (cs : List ℕ) (ps : List Part) → text_with w (map Char cs ++ ps) ≡ octets_of cs
    ++ text_with w ps
text-chars w [] ps = refl
text-chars w (c ∷ cs) ps = ap (λ y. encoding_of c ++ y) (text-chars w cs ps)
    ∙ sym (append_assoc (encoding_of c) (octets_of cs) (text_with w ps))

-- the parts of well-formed octets are their characters, and the text is those octets

-- the parts of well-formed octets are the characters that they spell
pub parts_spelled : {x cs : List ℕ} → Spells x cs → parts_of x ≡ map Char cs
parts_spelled {x} {cs} s = ap parts_of (sym (append-nil x)) ∙ parts_front s [] ∙ ap (λ ps. map Char cs ++ ps) parts_nil
    ∙ append-nil (map Char cs)

-- the text of well-formed octets is those octets, whatever the replacement
pub text_spelled : (w : ℕ) {x cs : List ℕ} → Spells x cs → text_with w (parts_of x) ≡ x
text_spelled w {x} {cs} s =
    ap (text_with w) (parts_spelled s ∙ sym (append-nil (map Char cs))) ∙ text-chars w cs [] ∙ append-nil (octets_of cs)
    ∙ octets_of_spelled s
