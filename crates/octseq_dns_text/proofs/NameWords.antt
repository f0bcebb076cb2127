-- The text of a name, and that of a string, is a word.
use Rattle.std.proofs.Common.{◌≡◌, ℕ, ◌+◌, ◌/◌, ◌%◌, ◌<◌, Bool, true, false, inl, List, [], ◌∷◌, ◌++◌, length}
use Rattle.std.proofs.Common.{refl, sym, ap, ◌∙◌, append_assoc, length-append, arith, rules, if◌then◌else◌}
use Rattle.std.specs.Char.{is_ascii_graphic}
use Rattle.std.specs.List.{All, flat_map}
use Rattle.std.specs.Prelude.{◌||◌, ◌==◌}
use Rattle.std.proofs.Math.Bool.{true≢false}
use Rattle.octseq.specs.OctetsText.{is_string_quoted, string_octet_text, string_text, three_digits}
use Rattle.octseq_dns_name.specs.Text.{is_quoted, label_text, labels_text, name_text, octet_text}
use Rattle.octseq_dns_scan.proofs.Mades.{head, made_append, made_first, made_none, tail}
use Rattle.octseq_dns_scan.proofs.StringWords.{string_spelled, string_word}
use Rattle.octseq_dns_scan.specs.Made.{IsMade}
use Rattle.octseq_dns_scan.specs.Word.{is_special, IsWordPart, IsPieceBut}
use Rattle.octseq_dns_text.specs.DataText.{opaque_word}
use Rattle.octseq_dns_text.proofs.SpacedWords.{IsFeedless, IsFirst, IsOrdinary, feedless_both, high_ordinary}

-- ---- names

plain_made : (octet : ℕ) (text : List ℕ) → IsOrdinary octet → IsMade IsWordPart text → IsMade IsWordPart (octet ∷ text)
plain_made octet text is made = made_first IsWordPart (octet ∷ []) text (inl (IsPieceBut.plain is)) made

digit_made : (n : ℕ) (text : List ℕ) → IsMade IsWordPart text → IsMade IsWordPart ((48 + n % 10) ∷ text)
digit_made n text made =
    plain_made (48 + n % 10) text (high_ordinary (48 + n % 10) (omega arith) (λ e. omega (arith, e))) made

bare : (octet : ℕ) → is_quoted octet ≡ false → is_ascii_graphic octet ≡ true → is_special octet ≡ false
bare octet is graphic = search rules

by_case : (octet : ℕ) (a b : Bool) → is_quoted octet ≡ a → is_ascii_graphic octet ≡ b
    → IsMade IsWordPart (if a then 92 ∷ octet ∷ [] else (if b then octet ∷ [] else 92 ∷ three_digits octet))
by_case octet true b quoted graphic = made_first IsWordPart (92 ∷ octet ∷ []) [] (inl IsPieceBut.escaped)
    (made_none IsWordPart)
by_case octet false true quoted graphic = plain_made octet [] (bare octet quoted graphic) (made_none IsWordPart)
by_case octet false false quoted graphic =
    made_first IsWordPart (92 ∷ (48 + octet / 100) ∷ []) ((48 + octet / 10 % 10) ∷ (48 + octet % 10) ∷ [])
    (inl IsPieceBut.escaped)
    (digit_made (octet / 10) ((48 + octet % 10) ∷ []) (digit_made octet [] (made_none IsWordPart)))

label_made : (label : List ℕ) → IsMade IsWordPart (label_text label)
label_made [] = made_none IsWordPart
label_made (octet ∷ label) =
    made_append IsWordPart (octet_text octet) (label_text label)
    (by_case octet (is_quoted octet) (is_ascii_graphic octet) refl refl) (label_made label)

stop_made : IsMade IsWordPart (46 ∷ [])
stop_made = plain_made 46 [] refl (made_none IsWordPart)

labels_made : (labels : List (List ℕ)) → IsMade IsWordPart (labels_text labels)
labels_made [] = made_none IsWordPart
labels_made (label ∷ labels) =
    made_append IsWordPart (label_text label ++ 46 ∷ []) (labels_text labels)
    (made_append IsWordPart (label_text label) (46 ∷ []) (label_made label) stop_made) (labels_made labels)

-- no octet of it is a line feed
digit_feedless : (n : ℕ) → ¬ (48 + n ≡ 10)
digit_feedless n same = omega (arith, same)

feedless_case : (octet : ℕ) (a b : Bool) → (a ≡ true → ¬ (octet ≡ 10)) → (b ≡ true → ¬ (octet ≡ 10))
    → IsFeedless (if a then 92 ∷ octet ∷ [] else (if b then octet ∷ [] else 92 ∷ three_digits octet))
feedless_case octet true b one two = (λ same. omega (arith, same), (one refl, tt))
feedless_case octet false true one two = (two refl, tt)
feedless_case octet false false one two = (
  λ same. omega (arith, same),
  (digit_feedless (octet / 100), (digit_feedless (octet / 10 % 10), (digit_feedless (octet % 10), tt))),
)

-- a test that a line feed doesn't pass
other_than : (test : ℕ → Bool) (octet : ℕ) → test 10 ≡ false → test octet ≡ true → ¬ (octet ≡ 10)
other_than test octet fails passes same = true≢false (sym passes ∙ ap test same ∙ fails)

label_feedless : (label : List ℕ) → IsFeedless (label_text label)
label_feedless [] = tt
label_feedless (octet ∷ label) =
    feedless_both (octet_text octet) (label_text label)
    (feedless_case octet (is_quoted octet) (is_ascii_graphic octet) (other_than is_quoted octet refl)
    (other_than is_ascii_graphic octet refl)) (label_feedless label)

labels_feedless : (labels : List (List ℕ)) → IsFeedless (labels_text labels)
labels_feedless [] = tt
labels_feedless (label ∷ labels) =
    feedless_both (label_text label ++ 46 ∷ []) (labels_text labels)
    (feedless_both (label_text label) (46 ∷ []) (label_feedless label) (λ same. omega (arith, same), tt))
    (labels_feedless labels)

pub string_octets_feedless : (octets : List ℕ) → IsFeedless (flat_map string_octet_text octets)
string_octets_feedless [] = tt
string_octets_feedless (octet ∷ octets) =
    feedless_both (string_octet_text octet) (flat_map string_octet_text octets)
    (feedless_case octet (is_string_quoted octet) (octet == 32 || is_ascii_graphic octet)
    (other_than is_string_quoted octet refl) (other_than (λ o. o == 32 || is_ascii_graphic o) octet refl))
    (string_octets_feedless octets)

-- a text with a full stop isn't the word before opaque data
stop_apart : (front after : List ℕ) → ¬ (front ++ 46 ∷ after ≡ opaque_word)
stop_apart [] after same = let first = head same in absurd (omega (arith, first))
stop_apart (a ∷ []) after same = let second = head (tail same) in absurd (omega (arith, second))
stop_apart (a ∷ b ∷ front) after same =
    let size = ap length (tail (tail same)) in
    let more = length-append front (46 ∷ after) in
    absurd (omega (arith, size, more))

pub name_first : (labels : List (List ℕ)) → IsFirst (name_text labels)
name_first [] = ((omega arith, stop_made), (λ same. omega (arith, same), tt), stop_apart [] [])
name_first (label ∷ labels) =
    let front = label_text label in
    let after = labels_text labels in
    let same : labels_text (label ∷ labels) ≡ front ++ 46 ∷ after = append_assoc front (46 ∷ []) after in
    let size = ap length same in
    let both = length-append front (46 ∷ after) in (
      (omega (arith, size, both), labels_made (label ∷ labels)),
      labels_feedless (label ∷ labels),
      λ is. stop_apart front after (sym same ∙ is),
    )

-- ---- strings

pub string_first : (octets : List ℕ) → All (λ octet. octet < 256) octets → IsFirst (string_text octets)
string_first octets each = (
  string_word octets (string_text octets) (string_spelled octets each),
  (
    λ same. omega (arith, same),
    feedless_both (flat_map string_octet_text octets) (34 ∷ []) (string_octets_feedless octets)
        (λ same. omega (arith, same), tt),
  ),
  λ same. let first = head same in omega (arith, first),
)
