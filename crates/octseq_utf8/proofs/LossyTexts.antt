-- The text of octets with a replacement for each bad part.
use Rattle.std.proofs.Common.{◌≡◌, ◌≢◌, ℕ, ◌≤◌, List, [], ◌∷◌, ◌++◌, map, length}
use Rattle.std.proofs.Common.{refl, arith, inr, ap, sym, ◌∙◌, subst, length-append}
use Rattle.octseq_utf8.specs.Encoding.{IsCharacter, number_of, encoding_of}
use Rattle.octseq_utf8.specs.Parts.{IsBadPart, Part, Char, Bad, Splits, nothing, encoding, bad_part, text_with, text}
use Rattle.octseq_utf8.specs.Reading.{parts_of}
use Rattle.octseq_utf8.specs.Text.{Spells, IsWellFormed}
use Rattle.octseq_utf8.proofs.Numbers.{encoding_of-number_of, encoding_is_of}
use Rattle.octseq_utf8.proofs.Joins.{parts_fault, text_spelled}
use Rattle.octseq_utf8.proofs.Spelling.{spells_nothing, spells_one, spells-append}
use Rattle.octseq_utf8.proofs.Splitting.{splits, only_parts, bad_length}

-- U+FFFD, the replacement, is a character
pub replacement_is_character : IsCharacter 0xFFFD
replacement_is_character = inr (omega arith, omega arith)

-- the text is well formed
pub text_well_formed : (w : ℕ) → IsCharacter w → {x : List ℕ} {parts : List Part} → Splits x parts
    → IsWellFormed (text_with w parts)
text_well_formed w h nothing = ([], spells_nothing)
text_well_formed w h (encoding {e} {parts = parts} p s) =
    let rest = text_well_formed w h s in (
      number_of e ∷ rest.0,
      subst (λ y. Spells (y ++ text_with w parts) (number_of e ∷ rest.0))
          (sym (encoding_of-number_of p)) (spells-append (spells_one p) rest.1),
    )
text_well_formed w h (bad_part b s) =
    let rest = text_well_formed w h s in
    (number_of (encoding_of w) ∷ rest.0, spells-append (spells_one (encoding_is_of w h).0) rest.1)

replacement_length : length (encoding_of 0xFFFD) ≡ 3
unfolding encoding_of
replacement_length = refl

-- so a text with a replacement of at least three octets is no shorter than its source

-- with a replacement of at least three octets, the text of parts is no shorter than the octets that split into them
pub text_with_long : (w : ℕ) → 3 ≤ length (encoding_of w) → {x : List ℕ} {parts : List Part} → Splits x parts
    → length x ≤ length (text_with w parts)
text_with_long w h nothing = omega arith
text_with_long w h (encoding {e} {rest = r} {parts = parts} p s) =
    let k = text_with_long w h s in
    omega (
      arith,
      length-append e r,
      length-append (encoding_of (number_of e)) (text_with w parts),
      ap length (encoding_of-number_of p),
    )
text_with_long w h (bad_part {bad = p} {rest = r} {parts = parts} b s) =
    let k = text_with_long w h s in let l = bad_length b in
    omega (arith, length-append p r, length-append (encoding_of w) (text_with w parts))

-- the lossy text of parts is no shorter than the octets that split into them
pub text_long : {x : List ℕ} {parts : List Part} → Splits x parts → length x ≤ length (text parts)
text_long s = text_with_long 0xFFFD (omega (arith, replacement_length)) s

-- the text of well-formed octets is those octets
pub text_same : (w : ℕ) (x : List ℕ) (parts : List Part) → IsWellFormed x → Splits x parts → text_with w parts ≡ x
text_same w x parts (cs, s) p = ap (text_with w) (only_parts p) ∙ text_spelled w s

-- and if they aren't well formed, it differs from them
pub text_other : (w : ℕ) → IsCharacter w → (x : List ℕ) (parts : List Part) → Splits x parts → ¬ IsWellFormed x
    → text_with w parts ≢ x
text_other w h x parts s n e = n (subst IsWellFormed e (text_well_formed w h s))

-- a splitting at a fault
pub splits_fault : (good characters bad rest : List ℕ) (parts : List Part) → Spells good characters
    → IsBadPart (bad ++ rest) bad → Splits rest parts
    → Splits (good ++ (bad ++ rest)) (map Char characters ++ (Bad bad ∷ parts))
splits_fault good characters bad rest parts s b p =
    let same : parts_of (good ++ (bad ++ rest)) ≡ map Char characters ++ (Bad bad ∷ parts) =
    parts_fault s bad rest b ∙ ap (λ ps. map Char characters ++ (Bad bad ∷ ps)) (sym (only_parts p)) in
    subst (Splits (good ++ (bad ++ rest))) same (splits (good ++ (bad ++ rest)))
