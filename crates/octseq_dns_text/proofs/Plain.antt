-- Texts without blanks and ends of lines (9, 10, 13, 32), quotation marks (34), commas (44), equals signs (61) and
-- backslashes (92).
use Rattle.std.proofs.Common.{◌≡◌, ◌≢◌, inl, inr, ℕ, ◌+◌, ◌*◌, ◌/◌, ◌%◌, ◌^◌, ◌<◌, ◌≤◌, length, Bool, true, false}
use Rattle.std.proofs.Common.{List, [], ◌∷◌, ◌++◌}
use Rattle.std.proofs.Common.{map, Option, None, Some, refl, sym, ap, ◌∙◌, subst, arith}
use Rattle.std.specs.Char.{digit_value}
use Rattle.std.specs.Fmt.{decimal}
use Rattle.std.specs.List.{AllByRecursion, flat_map}
use Rattle.std.specs.Net.Grammar.{IsColonHex, IsDotted, IsGroupsAfter}
use Rattle.std.specs.Net.Text.{dotted_text}
use Rattle.std.specs.Prelude.{◌==◌, codes, if◌then◌else◌}
use Rattle.std.specs.Str.Parse.{AllDigits}
use Rattle.std.proofs.lemmas.Bool.{ne_eqb}
use Rattle.std.proofs.lemmas.Bool.Decides.{nat_tests}
use Rattle.std.proofs.lemmas.List.{append-nil}
use Rattle.std.proofs.lemmas.List.Elements.{All-from_recursion}
use Rattle.std.proofs.lemmas.List.Splits.{slice_split_at, slice_split_none}
use Rattle.octseq.proofs.WrittenBack.{AreOctets}
use Rattle.octseq_dns_data.specs.SvcParamsText.{with_commas}
use Rattle.octseq_dns_scan.specs.Base64.{base64_digit, base64_text}
use Rattle.octseq_dns_scan.specs.Spelled.{is_special_in_string, SpellsOctetBut, SpellsOctets, SpellsString}
use Rattle.octseq_dns_scan.specs.Word.{IsWord, is_special}
use Rattle.octseq_dns_scan.proofs.Numerals.{shown_digits}
use Rattle.octseq_dns_scan.proofs.StringWords.{string_word}
use Rattle.octseq_dns_scan.proofs.Taken.{joined_word, plain_word}
use Rattle.octseq_dns_text.specs.Split.{octets_before, split_after, items_of}

-- an octet that stands for itself between quotation marks, and is no line feed
abbrev pub IsBare : ℕ → Type 0
IsBare octet = (octet ≢ 34) × (octet ≢ 92) × (octet ≢ 10)

-- and is no blank, no end of a line, no comma and no equals sign
abbrev pub IsPlain : ℕ → Type 0
IsPlain octet = (octet ≢ 34) × (octet ≢ 44) × (octet ≢ 61) × (octet ≢ 92) × (octet ≢ 9) × (octet ≢ 10) × (octet ≢ 13)
    × (octet ≢ 32)

abbrev pub AreBare : List ℕ → Type 0
AreBare text = AllByRecursion IsBare text

abbrev pub ArePlain : List ℕ → Type 0
ArePlain text = AllByRecursion IsPlain text

pub all_weaker : (P Q : ℕ → Type 0) → ((octet : ℕ) → P octet → Q octet) → (text : List ℕ) → AllByRecursion P text
    → AllByRecursion Q text
all_weaker P Q more [] each = tt
all_weaker P Q more (octet ∷ text) each = (more octet each.0, all_weaker P Q more text each.1)

pub plain_bare : (text : List ℕ) → ArePlain text → AreBare text
plain_bare text plain = all_weaker IsPlain IsBare (λ octet is. (is.0, is.3, is.5)) text plain

pub all_append : (P : ℕ → Type 0) (xs ys : List ℕ) → AllByRecursion P xs → AllByRecursion P ys
    → AllByRecursion P (xs ++ ys)
all_append P [] ys one two = two
all_append P (x ∷ xs) ys one two = (one.0, all_append P xs ys one.1 two)

-- ---- digits

no_digit : (radix octet other : ℕ) → radix < 37 → digit_value other ≡ 36 → digit_value octet < radix → octet ≢ other
no_digit radix octet other few is less same =
    let e = ap digit_value same ∙ is in omega (arith, few, less, e)

digit_plain : (radix octet : ℕ) → radix < 37 → digit_value octet < radix → IsPlain octet
digit_plain radix octet few less = (
  no_digit radix octet 34 few refl less,
  no_digit radix octet 44 few refl less,
  no_digit radix octet 61 few refl less,
  no_digit radix octet 92 few refl less,
  no_digit radix octet 9 few refl less,
  no_digit radix octet 10 few refl less,
  no_digit radix octet 13 few refl less,
  no_digit radix octet 32 few refl less,
)

pub digits_plain : (radix : ℕ) (text : List ℕ) → radix < 37 → AllDigits radix text → ArePlain text
digits_plain radix [] few each = tt
digits_plain radix (octet ∷ text) few each = (digit_plain radix octet few each.0, digits_plain radix text few each.1)

pub decimal_plain : (n : ℕ) → n < 2 ^ 64 → ArePlain (decimal n)
decimal_plain n small = digits_plain 10 (decimal n) (omega arith) (shown_digits n small).1

dot_plain : IsPlain 46
dot_plain =
    (omega arith, omega arith, omega arith, omega arith, omega arith, omega arith, omega arith, omega arith)

colon_plain : IsPlain 58
colon_plain =
    (omega arith, omega arith, omega arith, omega arith, omega arith, omega arith, omega arith, omega arith)

four_plain : (a b c d : ℕ) → (a < 256) × (b < 256) × (c < 256) × (d < 256) → ArePlain (dotted_text a b c d)
four_plain a b c d fit =
    let part = λ (n : ℕ) (small : n < 256). decimal_plain n (omega (arith, small)) in
    let dot : ArePlain (46 ∷ []) = (dot_plain, tt) in
    let join = all_append IsPlain in
    join _ _ (join _ _ (join _ _ (join _ _ (join _ _ (join _ _ (part a fit.0) dot) (part b fit.1)) dot) (part c fit.2))
    dot) (part d fit.3)

pub dotted_plain : (text octets : List ℕ) → IsDotted text octets → ArePlain text
dotted_plain text octets is = subst ArePlain (sym is.spelled) (four_plain is.a is.b is.c is.d is.fit)

groups_plain : (ipv4 : Bool) (lead text segments : List ℕ) → ArePlain lead → IsGroupsAfter ipv4 lead text segments
    → ArePlain text
groups_plain ipv4 lead text [] begins is = subst ArePlain (sym is) tt
groups_plain ipv4 lead text (s ∷ segments) begins (inl (group, rest, same, number, more)) =
    let here = digits_plain 16 group (omega arith) number.0.0.1 in
    let after = groups_plain ipv4 (codes ":") rest segments (colon_plain, tt) more in
    subst ArePlain (sym same)
    (all_append IsPlain (lead ++ group) rest (all_append IsPlain lead group begins here) after)
groups_plain ipv4 lead text (s ∷ segments) begins (inr (last, octets, is, same, dotted, value)) =
    subst ArePlain (sym same) (all_append IsPlain lead last begins (dotted_plain last octets dotted))

pub colon_hex_plain : (text segments : List ℕ) → IsColonHex text segments → ArePlain text
colon_hex_plain text segments (inl is) = groups_plain true [] text segments tt is.0
colon_hex_plain text segments (inr is) =
    let before = groups_plain false [] is.head_text is.head tt is.head_groups in
    let after = groups_plain true [] is.tail_text is.tail tt is.tail_groups in
    subst ArePlain (sym is.spelled)
    (all_append IsPlain (is.head_text ++ codes "::") is.tail_text
    (all_append IsPlain is.head_text (codes "::") before (colon_plain, (colon_plain, tt))) after)

-- ---- base 64

mark_bare : IsBare 61
mark_bare = (omega arith, omega arith, omega arith)

sextet_no_quote : (n : ℕ) → n < 64 → base64_digit n ≢ 34
sextet_no_quote n small is = grind (arith, nat_tests)

sextet_no_backslash : (n : ℕ) → n < 64 → base64_digit n ≢ 92
sextet_no_backslash n small is = grind (arith, nat_tests)

sextet_no_feed : (n : ℕ) → n < 64 → base64_digit n ≢ 10
sextet_no_feed n small is = grind (arith, nat_tests)

sextet_bare : (n : ℕ) → n < 64 → IsBare (base64_digit n)
sextet_bare n small = (sextet_no_quote n small, sextet_no_backslash n small, sextet_no_feed n small)

pub base64_bare : (octets : List ℕ) → AreOctets octets → AreBare (base64_text octets)
base64_bare [] each = tt
base64_bare (a ∷ []) each =
    let first = sextet_bare (a / 4) (omega (arith, each.0)) in
    let second = sextet_bare (a % 4 * 16 + 0) (omega arith) in
    (first, (second, (mark_bare, (mark_bare, tt))))
base64_bare (a ∷ b ∷ []) each =
    let first = sextet_bare (a / 4) (omega (arith, each.0)) in
    let second = sextet_bare (a % 4 * 16 + b / 16) (omega (arith, each.1.0)) in
    let third = sextet_bare (b % 16 * 4 + 0) (omega arith) in
    (first, (second, (third, (mark_bare, tt))))
base64_bare (a ∷ b ∷ c ∷ more) each =
    let first = sextet_bare (a / 4) (omega (arith, each.0)) in
    let second = sextet_bare (a % 4 * 16 + b / 16) (omega (arith, each.1.0)) in
    let third = sextet_bare (b % 16 * 4 + c / 64) (omega (arith, each.1.1.0)) in
    let fourth = sextet_bare (c % 64) (omega arith) in
    (first, (second, (third, (fourth, base64_bare more each.1.1.1))))

-- ---- what such texts spell

bare_octet : (octet : ℕ) → IsBare octet → is_special_in_string true octet ≡ false
bare_octet octet is =
    let quote = ne_eqb 34 octet (λ e. is.0 (sym e)) in
    let backslash = ne_eqb 92 octet (λ e. is.1 (sym e)) in
    rw (quote, backslash) refl

-- a text of bare octets spells itself between quotation marks
pub bare_spells : (text : List ℕ) → AreBare text → SpellsOctets (is_special_in_string true) text text
bare_spells [] each = refl
bare_spells (octet ∷ text) each =
    (octet ∷ [], text, refl, SpellsOctetBut.plain (bare_octet octet each.0), bare_spells text each.1)

-- ---- what such texts are split into

before_step : (octet : ℕ) (text more : List ℕ) (here : Bool) → here ≡ false
    → octets_before 61 (text ++ 61 ∷ more) ≡ text
    → (if here then [] else octet ∷ octets_before 61 (text ++ 61 ∷ more)) ≡ octet ∷ text
before_step octet text more true is later = absurd (cc)
before_step octet text more false is later = ap (λ l. octet ∷ l) later

pub plain_before : (text more : List ℕ) → ArePlain text → octets_before 61 (text ++ 61 ∷ more) ≡ text
plain_before [] more each = refl
plain_before (octet ∷ text) more each =
    before_step octet text more (octet == 61) (ne_eqb octet 61 each.0.2) (plain_before text more each.1)

after_step : (rest : List ℕ) (found : Option (List ℕ)) (here : Bool) → here ≡ false → (wanted : Option (List ℕ))
    → found ≡ wanted → (if here then Some rest else found) ≡ wanted
after_step rest found true is wanted later = absurd (cc)
after_step rest found false is wanted later = later

pub plain_after : (text more : List ℕ) → ArePlain text → split_after 61 (text ++ 61 ∷ more) ≡ Some more
plain_after [] more each = refl
plain_after (octet ∷ text) more each =
    after_step (text ++ 61 ∷ more) (split_after 61 (text ++ 61 ∷ more)) (octet == 61) (ne_eqb octet 61 each.0.2)
    (Some more) (plain_after text more each.1)

whole_step : (octet : ℕ) (text : List ℕ) (here : Bool) → here ≡ false → octets_before 61 text ≡ text
    → (if here then [] else octet ∷ octets_before 61 text) ≡ octet ∷ text
whole_step octet text true is later = absurd (cc)
whole_step octet text false is later = ap (λ l. octet ∷ l) later

pub plain_whole : (text : List ℕ) → ArePlain text → octets_before 61 text ≡ text
plain_whole [] each = refl
plain_whole (octet ∷ text) each =
    whole_step octet text (octet == 61) (ne_eqb octet 61 each.0.2) (plain_whole text each.1)

pub plain_none : (text : List ℕ) → ArePlain text → split_after 61 text ≡ None
plain_none [] each = refl
plain_none (octet ∷ text) each =
    after_step text (split_after 61 text) (octet == 61) (ne_eqb octet 61 each.0.2) None (plain_none text each.1)

no_comma : (octet : ℕ) → IsPlain octet → (octet == 44) ≡ false
no_comma octet is = ne_eqb octet 44 is.1

-- texts with commas between them are the items of the list
pub items_listed : {X : Type 0} (text : X → List ℕ) (x : X) (xs : List X)
    → AllByRecursion (λ y. ArePlain (text y)) (x ∷ xs) → items_of (with_commas text (x ∷ xs)) ≡ map text (x ∷ xs)
items_listed text x [] plain =
    let none = All-from_recursion (λ octet. (octet == 44) ≡ false) (text x)
    (all_weaker IsPlain (λ octet. (octet == 44) ≡ false) no_comma (text x) plain.0) in
    ap items_of (append-nil (text x)) ∙ slice_split_none (λ octet. octet == 44) (text x) none
items_listed text x (y ∷ ys) plain =
    let none = All-from_recursion (λ octet. (octet == 44) ≡ false) (text x)
    (all_weaker IsPlain (λ octet. (octet == 44) ≡ false) no_comma (text x) plain.0) in
    slice_split_at (λ octet. octet == 44) (text x) 44 (with_commas text (y ∷ ys)) none refl
    ∙ ap (λ l. text x ∷ l) (items_listed text y ys plain.1)

comma_bare : IsBare 44
comma_bare = (omega arith, omega arith, omega arith)

listed_bare : {X : Type 0} (text : X → List ℕ) (xs : List X) → AllByRecursion (λ y. ArePlain (text y)) xs
    → AreBare (flat_map (λ x. 44 ∷ text x) xs)
listed_bare text [] plain = tt
listed_bare text (x ∷ xs) plain =
    (comma_bare, all_append IsBare (text x) _ (plain_bare (text x) plain.0) (listed_bare text xs plain.1))

pub with_commas_bare : {X : Type 0} (text : X → List ℕ) (xs : List X) → AllByRecursion (λ y. ArePlain (text y)) xs
    → AreBare (with_commas text xs)
with_commas_bare text [] plain = tt
with_commas_bare text (x ∷ xs) plain =
    all_append IsBare (text x) _ (plain_bare (text x) plain.0) (listed_bare text xs plain.1)

-- ---- words

pub plain_special : (octet : ℕ) → IsPlain octet → is_special octet ≡ false
plain_special octet is =
    let quote = ne_eqb 34 octet (λ e. is.0 (sym e)) in
    let backslash = ne_eqb 92 octet (λ e. is.3 (sym e)) in
    let tab = ne_eqb 9 octet (λ e. is.4 (sym e)) in
    let feed = ne_eqb 10 octet (λ e. is.5 (sym e)) in
    let return = ne_eqb 13 octet (λ e. is.6 (sym e)) in
    let space = ne_eqb 32 octet (λ e. is.7 (sym e)) in
    rw (tab, feed, return, space, quote, backslash) refl

-- such a text is a word, if it has an octet
pub plain_text_word : (text : List ℕ) → 1 ≤ length text → ArePlain text → IsWord text
plain_text_word text some plain =
    plain_word text some (All-from_recursion (λ octet. is_special octet ≡ false) text
    (all_weaker IsPlain (λ octet. is_special octet ≡ false) plain_special text plain))

-- and so are it, an equals sign, and a string
pub valued_word : (text said word : List ℕ) → 1 ≤ length text → ArePlain text → SpellsString said word
    → IsWord (text ++ 61 ∷ word)
valued_word text said word some plain spells =
    let sign : IsWord (61 ∷ []) = plain_word (61 ∷ []) (omega arith)
    (All-from_recursion (λ octet. is_special octet ≡ false) (61 ∷ []) (refl, tt)) in
    joined_word text (61 ∷ word) (plain_text_word text some plain)
    (joined_word (61 ∷ []) word sign (string_word said word spells))
