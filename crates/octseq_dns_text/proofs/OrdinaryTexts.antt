-- Texts of octets that stand for themselves in a word.
use Rattle.std.proofs.Common.{◌≡◌, ◌≢◌, ℕ, ◌≤◌, ◌/◌, ◌%◌, ◌^◌, ◌<◌, true, inl, inr, List, [], ◌∷◌, ◌++◌, length, map}
use Rattle.std.proofs.Common.{take, refl, sym}
use Rattle.std.proofs.Common.{subst, arith, length-append, Option, None, Some, decimal}
use Rattle.std.proofs.lemmas.Bool.Decides.{nat_tests}
use Rattle.std.proofs.lemmas.List.Elements.{recursion_from_All}
use Rattle.std.specs.Char.{digit_char, is_ascii_alphanumeric}
use Rattle.std.specs.List.{AllByRecursion, flat_map}
use Rattle.std.specs.Net.Grammar.{IsColonHex, IsDotted}
use Rattle.std.specs.Prelude.{IsTrue, codes, unwrap_or}
use Rattle.octseq.proofs.WrittenBack.{AreOctets}
use Rattle.octseq.specs.OctetsText.{hex_text, ipv6_address_text}
use Rattle.std.specs.Net.Text.{ipv4_text}
use Rattle.octseq_dns_data.specs.Mnemonic.{Mnemonics, class_names, class_text, name_in, rtype_text}
use Rattle.octseq_dns_data.specs.Rtype.{rtype_names}
use Rattle.octseq_dns_data.specs.Tag.{IsTag}
use Rattle.octseq_dns_data.specs.Typed.{salt_text}
use Rattle.octseq_dns_scan.proofs.Addresses.{ipv4_word, ipv6_word}
use Rattle.octseq_dns_scan.proofs.Numerals.{shown_digits}
use Rattle.octseq_dns_scan.specs.Base32hex.{base32hex_text, quintets}
use Rattle.octseq_dns_scan.specs.Base64.{base64_digit, base64_text, sextets}
use Rattle.octseq_dns_text.proofs.Plain.{ArePlain, IsPlain, all_append, all_weaker, colon_hex_plain, decimal_plain}
use Rattle.octseq_dns_text.proofs.Plain.{dotted_plain, plain_special}
use Rattle.octseq_dns_text.proofs.PlainNames.{among_plain, among_some, are_plain, name_among, named_plain, named_some}
use Rattle.octseq_dns_text.proofs.PlainNames.{names_from, names_some, plain_from}
use Rattle.octseq_dns_text.proofs.SpacedWords.{AreOrdinary, IsFirst, IsOrdinary, high_ordinary, ordinary_first}

pub plain_first : (text : List ℕ) → 1 ≤ length text → ArePlain text → IsFirst text
plain_first text some plain =
    ordinary_first text some (all_weaker IsPlain IsOrdinary plain_special text plain)

-- ---- numbers, types and classes

some_left : (xs ys : List ℕ) → 1 ≤ length xs → 1 ≤ length (xs ++ ys)
some_left xs ys some = let size = length-append xs ys in omega (arith, size, some)

pub decimal_first : (n : ℕ) → n < 2 ^ 64 → IsFirst (decimal n)
decimal_first n small =
    let some = (shown_digits n small).0 in plain_first (decimal n) (omega (arith, some)) (decimal_plain n small)

found_first : (front : List ℕ) (names : Mnemonics) (n : ℕ) → n < 65536 → 1 ≤ length front → are_plain front ≡ true
    → named_plain names ≡ true → named_some names ≡ true → (found : Option (List ℕ)) → name_in names n ≡ found
    → IsFirst (unwrap_or found (front ++ decimal n))
found_first front names n bits some plain all each (Some name) is =
    let among = name_among names n name is in
    plain_first name (among_some n names name (names_some names each) among)
    (among_plain names n name (names_from names all) among)
found_first front names n bits some plain all each None is =
    plain_first (front ++ decimal n) (some_left front (decimal n) some)
    (all_append IsPlain front (decimal n) (plain_from front plain) (decimal_plain n (omega (arith, bits))))

pub rtype_first : (rtype : ℕ) → rtype < 65536 → IsFirst (rtype_text rtype)
unfolding rtype_text
rtype_first rtype bits =
    found_first (codes "TYPE") rtype_names rtype bits (omega arith) refl refl refl (name_in rtype_names rtype) refl

pub class_first : (class : ℕ) → class < 65536 → IsFirst (class_text class)
unfolding class_text
class_first class bits =
    found_first (codes "CLASS") class_names class bits (omega arith) refl refl refl (name_in class_names class) refl

-- ---- addresses

some_right : (xs ys : List ℕ) → 1 ≤ length ys → 1 ≤ length (xs ++ ys)
some_right xs ys some = let size = length-append xs ys in omega (arith, size, some)

dotted_some : (text octets : List ℕ) → IsDotted text octets → 1 ≤ length text
dotted_some text octets is =
    let digits = (shown_digits is.d (omega (arith, is.fit.3))).0 in
    subst (λ t. 1 ≤ length t) (sym is.spelled) (some_right _ (decimal is.d) (omega (arith, digits)))

pub ipv4_first : (octets : List ℕ) → AreOctets octets → length octets ≡ 4 → IsFirst (ipv4_text octets)
ipv4_first octets each long =
    let is = ipv4_word octets each long in
    plain_first (ipv4_text octets) (dotted_some (ipv4_text octets) octets is)
    (dotted_plain (ipv4_text octets) octets is)

colon_hex_some : (text segments : List ℕ) → IsColonHex text segments → 1 ≤ length text
colon_hex_some text [] (inl is) = absurd (omega (arith, is.1))
colon_hex_some text (s ∷ segments) (inl (inl (group, rest, same, number, more), long)) =
    let some = number.0.0.0 in
    subst (λ t. 1 ≤ length t) (sym same) (some_left group rest (omega (arith, some)))
colon_hex_some text (s ∷ segments) (inl (inr (last, octets, is, same, dotted, value), long)) =
    subst (λ t. 1 ≤ length t) (sym same) (dotted_some last octets dotted)
colon_hex_some text segments (inr is) =
    subst (λ t. 1 ≤ length t) (sym is.spelled)
    (some_left (is.head_text ++ codes "::") is.tail_text (some_right is.head_text (codes "::") (omega arith)))

pub ipv6_first : (octets : List ℕ) → AreOctets octets → length octets ≡ 16 → IsFirst (ipv6_address_text octets)
ipv6_first octets each long =
    let is = ipv6_word octets each long in
    plain_first (ipv6_address_text octets) (colon_hex_some (ipv6_address_text octets) _ is)
    (colon_hex_plain (ipv6_address_text octets) _ is)

-- ---- digits

digit_high : (v : ℕ) → 35 ≤ digit_char v
digit_high v = grind (arith, nat_tests)

digit_other : (v : ℕ) → digit_char v ≢ 92
digit_other v is = grind (arith, nat_tests)

digit_ordinary : (v : ℕ) → IsOrdinary (digit_char v)
digit_ordinary v = high_ordinary (digit_char v) (digit_high v) (digit_other v)

hex_ordinary : (octets : List ℕ) → AreOrdinary (flat_map hex_text octets)
hex_ordinary [] = tt
hex_ordinary (octet ∷ octets) =
    (digit_ordinary (octet / 16), (digit_ordinary (octet % 16), hex_ordinary octets))

pub hex_first : (octets : List ℕ) → 1 ≤ length octets → IsFirst (flat_map hex_text octets)
hex_first [] some = absurd (omega (arith, some))
hex_first (octet ∷ octets) some =
    ordinary_first (flat_map hex_text (octet ∷ octets)) (omega arith) (hex_ordinary (octet ∷ octets))

pub salt_first : (octets : List ℕ) → IsFirst (salt_text octets)
salt_first [] = ordinary_first (45 ∷ []) (omega arith) (refl, tt)
salt_first (octet ∷ octets) = hex_first (octet ∷ octets) (omega arith)

digits_ordinary : (values : List ℕ) → AreOrdinary (map digit_char values)
digits_ordinary [] = tt
digits_ordinary (v ∷ values) = (digit_ordinary v, digits_ordinary values)

base32hex_ordinary : (octets : List ℕ) → AreOrdinary (base32hex_text octets)
base32hex_ordinary [] = tt
base32hex_ordinary (a ∷ []) = digits_ordinary (take 2 (quintets (a ∷ 0 ∷ 0 ∷ 0 ∷ 0 ∷ [])))
base32hex_ordinary (a ∷ b ∷ []) = digits_ordinary (take 4 (quintets (a ∷ b ∷ 0 ∷ 0 ∷ 0 ∷ [])))
base32hex_ordinary (a ∷ b ∷ c ∷ []) = digits_ordinary (take 5 (quintets (a ∷ b ∷ c ∷ 0 ∷ 0 ∷ [])))
base32hex_ordinary (a ∷ b ∷ c ∷ d ∷ []) = digits_ordinary (take 7 (quintets (a ∷ b ∷ c ∷ d ∷ 0 ∷ [])))
base32hex_ordinary (a ∷ b ∷ c ∷ d ∷ e ∷ more) =
    let group = quintets (a ∷ b ∷ c ∷ d ∷ e ∷ []) in
    all_append IsOrdinary (map digit_char group) (base32hex_text more) (digits_ordinary group)
    (base32hex_ordinary more)

base32hex_some : (octets : List ℕ) → 1 ≤ length octets → 1 ≤ length (base32hex_text octets)
base32hex_some [] some = absurd (omega (arith, some))
base32hex_some (a ∷ []) some = omega arith
base32hex_some (a ∷ b ∷ []) some = omega arith
base32hex_some (a ∷ b ∷ c ∷ []) some = omega arith
base32hex_some (a ∷ b ∷ c ∷ d ∷ []) some = omega arith
base32hex_some (a ∷ b ∷ c ∷ d ∷ e ∷ more) some = omega arith

pub base32hex_first : (octets : List ℕ) → 1 ≤ length octets → IsFirst (base32hex_text octets)
base32hex_first octets some =
    ordinary_first (base32hex_text octets) (base32hex_some octets some) (base32hex_ordinary octets)

sextet_high : (v : ℕ) → 35 ≤ base64_digit v
sextet_high v = grind (arith, nat_tests)

sextet_other : (v : ℕ) → base64_digit v ≢ 92
sextet_other v is = grind (arith, nat_tests)

sextets_ordinary : (values : List ℕ) → AreOrdinary (map base64_digit values)
sextets_ordinary [] = tt
sextets_ordinary (v ∷ values) =
    (high_ordinary (base64_digit v) (sextet_high v) (sextet_other v), sextets_ordinary values)

base64_ordinary : (octets : List ℕ) → AreOrdinary (base64_text octets)
base64_ordinary [] = tt
base64_ordinary (a ∷ []) =
    let group = take 2 (sextets (a ∷ 0 ∷ 0 ∷ [])) in
    all_append IsOrdinary (map base64_digit group) (codes "==") (sextets_ordinary group) (refl, (refl, tt))
base64_ordinary (a ∷ b ∷ []) =
    let group = take 3 (sextets (a ∷ b ∷ 0 ∷ [])) in
    all_append IsOrdinary (map base64_digit group) (codes "=") (sextets_ordinary group) (refl, tt)
base64_ordinary (a ∷ b ∷ c ∷ more) =
    let group = sextets (a ∷ b ∷ c ∷ []) in
    all_append IsOrdinary (map base64_digit group) (base64_text more) (sextets_ordinary group)
    (base64_ordinary more)

base64_some : (octets : List ℕ) → 1 ≤ length octets → 1 ≤ length (base64_text octets)
base64_some [] some = absurd (omega (arith, some))
base64_some (a ∷ []) some = omega arith
base64_some (a ∷ b ∷ []) some = omega arith
base64_some (a ∷ b ∷ c ∷ more) some = omega arith

pub base64_first : (octets : List ℕ) → 1 ≤ length octets → IsFirst (base64_text octets)
base64_first octets some = ordinary_first (base64_text octets) (base64_some octets some) (base64_ordinary octets)

-- ---- tags

letter_ordinary : (octet : ℕ) → IsTrue (is_ascii_alphanumeric octet) → IsOrdinary octet
letter_ordinary octet is =
    high_ordinary octet (high octet is) (λ same. other (subst (λ o. IsTrue (is_ascii_alphanumeric o)) same is))
  where
    high : (octet : ℕ) → is_ascii_alphanumeric octet ≡ true → 35 ≤ octet
    high octet is = grind (arith, nat_tests)

    other : is_ascii_alphanumeric 92 ≡ true → ⊥
    other is = absurd (cc)

letters_ordinary : (tag : List ℕ) → AllByRecursion (λ octet. IsTrue (is_ascii_alphanumeric octet)) tag
    → AreOrdinary tag
letters_ordinary [] are = tt
letters_ordinary (octet ∷ tag) are = (letter_ordinary octet are.0, letters_ordinary tag are.1)

pub tag_first : (tag : List ℕ) → IsTag tag → IsFirst tag
tag_first [] is = absurd (is.some refl)
tag_first (octet ∷ tag) is =
    ordinary_first (octet ∷ tag) (omega arith)
    (letters_ordinary (octet ∷ tag) (recursion_from_All _ (octet ∷ tag) is.alphanumeric))
