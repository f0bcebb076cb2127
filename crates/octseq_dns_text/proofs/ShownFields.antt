-- What is shown of a part of data is a word of it.
use Rattle.std.proofs.Common.{◌≡◌, ℕ, zero, suc, ◌+◌, ◌*◌, ◌/◌, ◌%◌, ◌^◌, ◌<◌, ◌≤◌, Option, Some, None, List, [], ◌∷◌}
use Rattle.std.proofs.Common.{◌++◌, map, take, length, refl, sym, ap, ◌∙◌, subst, arith, decimal, inl, inr}
use Rattle.std.proofs.lemmas.Bool.Decides.{nat_tests}
use Rattle.std.proofs.lemmas.List.{append-nil, map-append}
use Rattle.std.specs.Char.{digit_char, to_ascii_lowercase}
use Rattle.std.specs.List.{All, flat_map}
use Rattle.std.specs.Str.Parse.{digits_value}
use Rattle.octseq.proofs.WrittenBack.{AreOctets}
use Rattle.octseq.specs.Integer.{octets_be}
use Rattle.octseq.specs.OctetsText.{hex_text, string_text}
use Rattle.octseq_dns_data.proofs.Mnemonics.{reads_shown}
use Rattle.octseq_dns_data.specs.Mnemonic.{ReadsRtype, rtype_text}
use Rattle.octseq_dns_data.specs.Typed.{salt_text}
use Rattle.octseq_dns_name.proofs.Spellings.{name_spelled}
use Rattle.octseq_dns_name.specs.Name.{wire_length}
use Rattle.octseq_dns_name.specs.Spelling.{AreOctetLabels}
use Rattle.octseq_dns_name.specs.Text.{name_text}
use Rattle.octseq_dns_name.specs.Wire.{wire, AreLabels}
use Rattle.octseq_dns_scan.proofs.HexTexts.{hex_written}
use Rattle.octseq_dns_scan.proofs.Numerals.{shown_digits, shown_value, shown_short}
use Rattle.octseq_dns_scan.proofs.StringWords.{string_spelled}
use Rattle.octseq_dns_scan.specs.Base32hex.{quintets, base32hex_text, IsBase32hexText}
use Rattle.octseq_dns_scan.specs.Base64.{base64_text, IsBase64Text}
use Rattle.octseq_dns_scan.specs.Hex.{IsHexText}
use Rattle.octseq_dns_scan.specs.Time.{IsTime}
use Rattle.octseq_dns_text.specs.Fields.{IsRtypeWord, IsNameWord}
use Rattle.octseq_dns_text.specs.Runs.{AreRuns}
use Rattle.octseq_dns_text.specs.Scans.{AreSome}
use Rattle.octseq_dns_text.specs.Tails.{IsLongString}
use Rattle.octseq_dns_text.specs.Words.{IsNumeralWord, IsTimeWord, IsCountedWord, IsStringWord, IsSomeBase32hex, IsSalt}

-- ---- numbers

number_by : (size n : ℕ) → n < 2 ^ 64 → n < 256 ^ size → IsNumeralWord size (decimal n) (octets_be size n)
number_by size n small few =
    let value = shown_value n small in
    (shown_digits n small, subst (λ v. v < 256 ^ size) (sym value) few, ap (octets_be size) (sym value))

pub number_shown : (size n : ℕ) → size ≤ 4 → n < 256 ^ size → IsNumeralWord size (decimal n) (octets_be size n)
number_shown zero n most few = number_by zero n (omega arith) few
number_shown (suc zero) n most few = number_by 1 n (omega arith) few
number_shown (suc (suc zero)) n most few = number_by 2 n (omega arith) few
number_shown (suc (suc (suc zero))) n most few = number_by 3 n (omega arith) few
number_shown (suc (suc (suc (suc zero)))) n most few = number_by 4 n (omega arith) few
number_shown (suc (suc (suc (suc (suc size))))) n most few = absurd (omega arith)

reads : (n : ℕ) → n < 65536 → ReadsRtype (rtype_text n) n
unfolding ReadsRtype rtype_text
reads n few = reads_shown _ _ n few

pub rtype_shown : (n : ℕ) → n < 65536 → IsRtypeWord (rtype_text n) (octets_be 2 n)
rtype_shown n few = (n, reads n few, refl)

pub time_shown : (n : ℕ) → n < 2 ^ 32 → IsTimeWord (decimal n) (octets_be 4 n)
time_shown n few =
    let small : n < 2 ^ 64 = omega arith in
    let value = shown_value n small in
    let most : digits_value 10 (decimal n) ≤ 4294967295 = omega (arith, value) in
    (n, IsTime.number (shown_short n few) (shown_digits n small) most (sym value), refl)

-- ---- names and strings

pub name_shown : (origin : Option (List (List ℕ))) (labels : List (List ℕ)) → AreOctetLabels labels
    → AreLabels labels → wire_length labels ≤ 255 → IsNameWord origin (name_text labels) (wire labels)
name_shown None labels octets are short = (labels, name_spelled labels octets, (refl, are, short))
name_shown (Some origin) labels octets are short = (labels, inl (name_spelled labels octets), (refl, are, short))

pub string_shown : (octets : List ℕ) → All (λ octet. octet < 256) octets → length octets ≤ 255
    → IsStringWord (string_text octets) (length octets ∷ octets)
string_shown octets are few = (octets, string_spelled octets are, few, refl)

pub value_shown : (octets : List ℕ) (least : ℕ) → All (λ octet. octet < 256) octets → least ≤ length octets
    → IsLongString least (string_text octets ∷ []) octets
value_shown octets least are long = (string_text octets, refl, string_spelled octets are, long)

-- ---- octets

pub salt_shown : (octets : List ℕ) → AreOctets octets → length octets ≤ 255
    → IsCountedWord IsSalt (salt_text octets) (length octets ∷ octets)
salt_shown [] are few = ([], inl (refl, refl), few, refl)
salt_shown (x ∷ octets) are few =
    (x ∷ octets, inr (omega arith, are, hex_written (x ∷ octets) are), few, refl)

pub hex_shown : (octets : List ℕ) → AreOctets octets
    → AreSome (AreRuns IsHexText) (flat_map hex_text octets ∷ []) octets
hex_shown octets are = (
  omega arith,
  (
    are,
    subst (λ text. IsHexText text octets) (sym (append-nil (flat_map hex_text octets)))
        (hex_written octets are),
  ),
)

pub base64_shown : (octets : List ℕ) → AreOctets octets
    → AreSome (AreRuns IsBase64Text) (base64_text octets ∷ []) octets
base64_shown octets are = (omega arith, (are, append-nil (base64_text octets)))

lower_32 : (v : ℕ) → v < 32 → to_ascii_lowercase (digit_char v) ≡ digit_char v
lower_32 v small = grind (arith, nat_tests)

base32hex_lower : (octets : List ℕ) → AreOctets octets
    → map to_ascii_lowercase (base32hex_text octets) ≡ base32hex_text octets
base32hex_lower [] are = refl
base32hex_lower (a ∷ []) (sa, are) =
    let p = lower_32 (a / 8) (omega (arith, sa)) in
    let q = lower_32 (a % 8 * 4 + 0 / 64) (omega arith) in
    λ i. p i ∷ q i ∷ []
base32hex_lower (a ∷ b ∷ []) (sa, (sb, are)) =
    let p = lower_32 (a / 8) (omega (arith, sa)) in
    let q = lower_32 (a % 8 * 4 + b / 64) (omega (arith, sb)) in
    let r = lower_32 (b / 2 % 32) (omega arith) in
    let s = lower_32 (b % 2 * 16 + 0 / 16) (omega arith) in
    λ i. p i ∷ q i ∷ r i ∷ s i ∷ []
base32hex_lower (a ∷ b ∷ c ∷ []) (sa, (sb, (sc, are))) =
    let p = lower_32 (a / 8) (omega (arith, sa)) in
    let q = lower_32 (a % 8 * 4 + b / 64) (omega (arith, sb)) in
    let r = lower_32 (b / 2 % 32) (omega arith) in
    let s = lower_32 (b % 2 * 16 + c / 16) (omega (arith, sc)) in
    let t = lower_32 (c % 16 * 2 + 0 / 128) (omega arith) in
    λ i. p i ∷ q i ∷ r i ∷ s i ∷ t i ∷ []
base32hex_lower (a ∷ b ∷ c ∷ d ∷ []) (sa, (sb, (sc, (sd, are)))) =
    let p = lower_32 (a / 8) (omega (arith, sa)) in
    let q = lower_32 (a % 8 * 4 + b / 64) (omega (arith, sb)) in
    let r = lower_32 (b / 2 % 32) (omega arith) in
    let s = lower_32 (b % 2 * 16 + c / 16) (omega (arith, sc)) in
    let t = lower_32 (c % 16 * 2 + d / 128) (omega (arith, sd)) in
    let u = lower_32 (d / 4 % 32) (omega arith) in
    let v = lower_32 (d % 4 * 8 + 0 / 32) (omega arith) in
    λ i. p i ∷ q i ∷ r i ∷ s i ∷ t i ∷ u i ∷ v i ∷ []
base32hex_lower (a ∷ b ∷ c ∷ d ∷ e ∷ more) (sa, (sb, (sc, (sd, (se, are))))) =
    let p = lower_32 (a / 8) (omega (arith, sa)) in
    let q = lower_32 (a % 8 * 4 + b / 64) (omega (arith, sb)) in
    let r = lower_32 (b / 2 % 32) (omega arith) in
    let s = lower_32 (b % 2 * 16 + c / 16) (omega (arith, sc)) in
    let t = lower_32 (c % 16 * 2 + d / 128) (omega (arith, sd)) in
    let u = lower_32 (d / 4 % 32) (omega arith) in
    let v = lower_32 (d % 4 * 8 + e / 32) (omega (arith, se)) in
    let w = lower_32 (e % 32) (omega arith) in
    let rest = base32hex_lower more are in
    λ i. p i ∷ q i ∷ r i ∷ s i ∷ t i ∷ u i ∷ v i ∷ w i ∷ rest i

pub hash_shown : (octets : List ℕ) → AreOctets octets → 1 ≤ length octets → length octets ≤ 255
    → IsCountedWord IsSomeBase32hex (base32hex_text octets) (length octets ∷ octets)
hash_shown octets are some few = (octets, (some, are, base32hex_lower octets are), few, refl)
