-- Data, opaque or in the layout of its type.
use Rattle.std.proofs.Common.{◌≡◌, ℕ, ◌+◌, ◌*◌, ◌≤◌, Bool, List, [], ◌∷◌, ◌++◌, length, refl, sym, ap, ◌∙◌, subst}
use Rattle.std.proofs.Common.{arith}
use Rattle.std.proofs.Common.{Option, Some, None, Result, Ok, Err, decimal, inl, inr}
use Rattle.std.specs.List.{concat}
use Rattle.std.specs.Str.Parse.{IsNumeral, digits_value}
use Rattle.octseq_dns_scan.proofs.Numerals.{shown_digits, shown_value}
use Rattle.octseq_dns_scan.specs.Hex.{IsHexText}
use Rattle.octseq_dns_scan.specs.Word.{TakesWord, AreWords}
use Rattle.octseq_dns_text.proofs.ReadTexts.{reads_less, reads_malformed}
use Rattle.octseq_dns_text.proofs.SomeTexts.{fault_first}
use Rattle.octseq_dns_text.proofs.WordTexts.{hex_text_length}
use Rattle.octseq_dns_text.specs.DataText.{IsSizedText, opaque_word, IsOpaqueText, IsNotOpaque, IsDataText}
use Rattle.octseq_dns_text.specs.Layouts.{TextLayout, layout_of, IsLayoutText}
use Rattle.octseq_dns_text.specs.Reached.{ReadsText}
use Rattle.octseq_dns_text.specs.Runs.{AreRuns}
use Rattle.octseq_dns_text.specs.Scans.{Goes, BeginsWithWords, IsWordFault}
use Rattle.octseq_dns_text.specs.SizedHex.{IsSizedHexText}
use Rattle.octseq_dns_text.specs.declared.error.ScanError.{ScanError}

-- ---- the number of octets, and the octets

pub sized_goes : Goes IsSizedText []
sized_goes =
    let value = shown_value 0 (omega arith) in (
      decimal 0 ∷ [],
      [],
      (decimal 0, [], refl, shown_digits 0 (omega arith), omega (arith, value), sym value, (tt, refl)),
    )

pub sized_none : (ahead : List ℕ) (start : ℕ) → ((word rest : List ℕ) → ¬ TakesWord word ahead rest)
    → IsWordFault IsSizedText ahead start start
sized_none ahead start none = fault_first IsSizedText ahead start sized_goes
    (λ word left takes. absurd (none word left takes))
    (λ same octets (number, runs, never, numeral, few, long, are). absurd (cc))

pub sized_bad : (word ahead rest : List ℕ) (start : ℕ) → TakesWord word ahead rest
    → ((other left : List ℕ) → TakesWord other ahead left → other ≡ word) → ¬ (ahead ≡ [])
    → ¬ (IsNumeral 10 word × (digits_value 10 word ≤ 65535)) → IsWordFault IsSizedText ahead start start
sized_bad word ahead rest start taken once some none = fault_first IsSizedText ahead start sized_goes
    (λ other left takes (more, octets, (number, runs, same, numeral, few, long, are)).
    let first : number ≡ word = let both = once other left takes in cc in
    none (subst (λ w. IsNumeral 10 w × (digits_value 10 w ≤ 65535)) first (numeral, few)))
    (λ same. absurd (some same))

pub sized_to : (number : List ℕ) (len : ℕ) → IsNumeral 10 number → digits_value 10 number ≤ 65535
    → len ≡ digits_value 10 number → (words : List (List ℕ)) (octets : List ℕ)
    → AreRuns (IsSizedHexText (2 * len)) words octets → IsSizedText (number ∷ words) octets
sized_to number len numeral few value words octets (are, (is, digits)) =
    let lengths = hex_text_length (concat words) octets is in
    (number, words, refl, numeral, few, omega (arith, lengths, digits, value), (are, is))

pub sized_from : (number : List ℕ) (len : ℕ) → len ≡ digits_value 10 number → (words : List (List ℕ))
    (octets : List ℕ) → IsSizedText (number ∷ words) octets → AreRuns (IsSizedHexText (2 * len)) words octets
sized_from number len value words octets (other, runs, same, numeral, few, long, (are, is)) =
    let first : number ≡ other = cc in
    let rest : runs ≡ words = cc in
    let hex = subst (λ all. IsHexText (concat all) octets) rest is in
    let lengths = hex_text_length (concat words) octets hex in
    let values = ap (digits_value 10) first in
    (are, (hex, omega (arith, lengths, long, value, values)))

-- ---- the word before opaque data

pub opaque_to : (origin : Option (List (List ℕ))) (rtype class : ℕ) (words : List (List ℕ)) (octets : List ℕ)
    → IsSizedText words octets → IsDataText origin rtype class (opaque_word ∷ words) octets
opaque_to origin rtype class words octets is = inl (words, refl, is)

pub opaque_from : (origin : Option (List (List ℕ))) (rtype class : ℕ) (words : List (List ℕ)) (octets : List ℕ)
    → IsDataText origin rtype class (opaque_word ∷ words) octets → IsSizedText words octets
opaque_from origin rtype class words octets (inl (after, same, is)) =
    let rest : after ≡ words = cc in
    subst (λ all. IsSizedText all octets) rest is
opaque_from origin rtype class words octets (inr (never, typed)) = absurd (never words refl)

opaque_goes : (origin : Option (List (List ℕ))) (rtype class : ℕ) → Goes (IsDataText origin rtype class) []
opaque_goes origin rtype class =
    let (words, octets, is) = sized_goes in
    (opaque_word ∷ words, octets, inl (words, refl, is))

-- ---- the first word is another

-- no text begins with the word of opaque data
abbrev NoneOpaque : List ℕ → Type 0
NoneOpaque ahead = (rest : List ℕ) → ¬ TakesWord opaque_word ahead rest

other_word : (ahead word rest : List ℕ) → NoneOpaque ahead → TakesWord word ahead rest → ¬ (word ≡ opaque_word)
other_word ahead word rest none takes same = none rest (subst (λ w. TakesWord w ahead rest) same takes)

not_opaque : (ahead : List ℕ) → NoneOpaque ahead → (words : List (List ℕ)) → AreWords words ahead → IsNotOpaque words
not_opaque ahead none [] are after same = absurd (cc)
not_opaque ahead none (word ∷ words) (rest, takes, are) after same =
    let first : word ≡ opaque_word = cc in
    other_word ahead word rest none takes first

front_not_opaque : (ahead : List ℕ) → NoneOpaque ahead → (front : List (List ℕ)) (rest : List ℕ)
    → BeginsWithWords front ahead rest → IsNotOpaque front
front_not_opaque ahead none [] rest begins after same = absurd (cc)
front_not_opaque ahead none (word ∷ front) rest (next, takes, begins) after same =
    let first : word ≡ opaque_word = cc in
    other_word ahead word next none takes first

next_not_opaque : (ahead : List ℕ) → NoneOpaque ahead → (front : List (List ℕ)) (rest word left : List ℕ)
    → BeginsWithWords front ahead rest → TakesWord word rest left → (more : List (List ℕ))
    → IsNotOpaque ((front ++ word ∷ []) ++ more)
next_not_opaque ahead none [] rest word left begins takes more after same =
    let first : word ≡ opaque_word = cc in
    other_word ahead word left none (subst (λ text. TakesWord word text left) (sym begins) takes) first
next_not_opaque ahead none (head ∷ front) rest word left (next, taken, begins) takes more after same =
    let first : head ≡ opaque_word = cc in
    other_word ahead head next none taken first

typed_from : (origin : Option (List (List ℕ))) (rtype class : ℕ) (layout : TextLayout)
    → layout_of rtype class ≡ Some layout → (words : List (List ℕ)) (octets : List ℕ) → IsNotOpaque words
    → IsDataText origin rtype class words octets → IsLayoutText origin layout.fields layout.tail words octets
typed_from origin rtype class layout known words octets never (inl (after, same, is)) = absurd (never after same)
typed_from origin rtype class layout known words octets never (inr (also, (other, found, is))) =
    let one : other ≡ layout = cc in
    subst (λ l. IsLayoutText origin l.fields l.tail words octets) one is

goes_data : (origin : Option (List (List ℕ))) (rtype class : ℕ) (layout : TextLayout)
    → layout_of rtype class ≡ Some layout → (ahead : List ℕ) → NoneOpaque ahead → (front : List (List ℕ))
    (rest : List ℕ) → BeginsWithWords front ahead rest → Goes (IsLayoutText origin layout.fields layout.tail) front
    → Goes (IsDataText origin rtype class) front
goes_data origin rtype class layout known ahead none [] rest begins goes = opaque_goes origin rtype class
goes_data origin rtype class layout known ahead none (word ∷ front) rest (next, takes, begins) (more, octets, is) = (
  more,
  octets,
  inr (
    λ after same. let first : word ≡ opaque_word = cc in other_word ahead word next none takes first,
    (layout, known, is),
  ),
)

layout_fault : (origin : Option (List (List ℕ))) (rtype class : ℕ) (layout : TextLayout)
    → layout_of rtype class ≡ Some layout → (ahead : List ℕ) (start : ℕ) → NoneOpaque ahead → (offset : ℕ)
    → IsWordFault (IsLayoutText origin layout.fields layout.tail) ahead start offset
    → IsWordFault (IsDataText origin rtype class) ahead start offset
layout_fault origin rtype class layout known ahead start none offset fault = record {
  front = fault.front;
  rest = fault.rest;
  begins = fault.begins;
  place = fault.place;
  goes = goes_data origin rtype class layout known ahead none fault.front fault.rest fault.begins fault.goes;
  stops = λ word left takes (more, octets, is). fault.stops word left takes (
    more,
    octets,
    typed_from origin rtype class layout known ((fault.front ++ word ∷ []) ++ more) octets
        (next_not_opaque ahead none fault.front fault.rest word left fault.begins takes more) is,
  );
  ends = λ same octets is. fault.ends same octets (typed_from origin rtype class layout known fault.front octets
      (front_not_opaque ahead none fault.front fault.rest fault.begins) is);
}

pub layout_reads : (origin : Option (List (List ℕ))) (rtype class : ℕ) (layout : TextLayout)
    → layout_of rtype class ≡ Some layout → (limit : Option ℕ) (asks : Bool) (result : Result (Unit {0}) ScanError)
    (ahead : List ℕ) (start : ℕ) (old new : List ℕ) → ((rest : List ℕ) → ¬ TakesWord opaque_word ahead rest)
    → ReadsText (IsLayoutText origin layout.fields layout.tail) limit asks result ahead start old new
    → ReadsText (IsDataText origin rtype class) limit asks result ahead start old new
layout_reads origin rtype class layout known limit asks result ahead start old new none =
    reads_less (IsLayoutText origin layout.fields layout.tail) (IsDataText origin rtype class) limit asks result ahead
    start old new (λ words octets are is. inr (not_opaque ahead none words are, (layout, known, is)))
    (layout_fault origin rtype class layout known ahead start none)

-- a type without a layout has only opaque data
pub none_reads : (origin : Option (List (List ℕ))) (rtype class : ℕ) → layout_of rtype class ≡ None
    → (limit : Option ℕ) (asks : Bool) (ahead : List ℕ) (start : ℕ) (old new : List ℕ)
    → ((rest : List ℕ) → ¬ TakesWord opaque_word ahead rest)
    → ReadsText (IsDataText origin rtype class) limit asks (Err (ScanError.Malformed start)) ahead start old new
none_reads origin rtype class unknown limit asks ahead start old new none =
    reads_malformed (IsDataText origin rtype class) limit asks ahead start start old new
    (fault_first (IsDataText origin rtype class) ahead start (opaque_goes origin rtype class)
    (λ word left takes (more, octets, is). elim is [
      | inl (after, same, sized) ↦
          let first : word ≡ opaque_word = cc in
          other_word ahead word left none takes first
      | inr (never, (layout, known, typed)) ↦ absurd (cc)
    ])
    (λ same octets is. elim is [
      | inl (after, never, sized) ↦ absurd (cc)
      | inr (never, (layout, known, typed)) ↦ absurd (cc)
    ]))
