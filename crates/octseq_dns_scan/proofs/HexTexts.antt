-- Hexadecimal text, digit by digit.
use Rattle.std.proofs.Common.{◌≡◌, ◌≢◌, ℕ, ◌*◌, ◌/◌, ◌%◌, ◌<◌, List, [], ◌∷◌, ◌++◌, map, get_or, drop, refl, sym}
use Rattle.std.proofs.Common.{ap, ◌∙◌, append_assoc, arith, length, length-append, Option, Some, None, unwrap_or}
use Rattle.std.proofs.lemmas.Bool.Decides.{nat_tests}
use Rattle.std.proofs.lemmas.List.{append-nil, map-append}
use Rattle.std.proofs.lemmas.List.Concat.{flat_map-append}
use Rattle.std.specs.Char.{digit_char, to_ascii_lowercase}
use Rattle.std.specs.List.{flat_map}
use Rattle.octseq.proofs.WrittenBack.{AreOctets}
use Rattle.octseq.specs.OctetsText.{hex_text}
use Rattle.octseq_dns_scan.specs.Hex.{IsHexText}
use Rattle.octseq_dns_scan.specs.HexRead.{open_digit}
use Rattle.octseq_dns_scan.specs.TextReader.{NoText}

-- the digit at a place of a text
abbrev at : ℕ → List ℕ → ℕ
at place text = get_or text place 0

digit_16 : (u v : ℕ) → u < 16 → v < 16 → digit_char u ≡ digit_char v → u ≡ v
digit_16 u v small_u small_v is = grind (arith, nat_tests)

pub hex_same : (octets other : List ℕ) → AreOctets octets → AreOctets other
    → flat_map hex_text octets ≡ flat_map hex_text other → octets ≡ other
hex_same [] [] are also is = refl
hex_same [] (y ∷ other) are also is = absurd (cc)
hex_same (x ∷ octets) [] are also is = absurd (cc)
hex_same (x ∷ octets) (y ∷ other) are also is =
    let high = digit_16 (x / 16) (y / 16) (omega (arith, are.0)) (omega (arith, also.0)) (ap (at 0) is) in
    let low = digit_16 (x % 16) (y % 16) (omega arith) (omega arith) (ap (at 1) is) in
    let first : x ≡ y = omega (arith, high, low) in
    let rest = hex_same octets other are.1 also.1 (ap (drop 2) is) in
    cc (first, rest)

-- each octet of a text is a digit
pub digit_at : (octets front : List ℕ) (c : ℕ) (more : List ℕ) → AreOctets octets
    → front ++ c ∷ more ≡ flat_map hex_text octets → (digit : ℕ) × (digit < 16) × (c ≡ digit_char digit)
digit_at [] [] c more are is = absurd (cc)
digit_at [] (a ∷ front) c more are is = absurd (cc)
digit_at (x ∷ octets) [] c more are is = (x / 16, omega (arith, are.0), ap (at 0) is)
digit_at (x ∷ octets) (a ∷ []) c more are is = (x % 16, omega arith, ap (at 1) is)
digit_at (x ∷ octets) (a ∷ b ∷ front) c more are is = digit_at octets front c more are.1 (ap (drop 2) is)

-- so no text goes on with another octet
pub no_digit : (text : List ℕ) (c : ℕ) → ((digit : ℕ) → digit < 16 → to_ascii_lowercase c ≢ digit_char digit)
    → NoText IsHexText (text ++ c ∷ [])
no_digit text c other octets more are is =
    let spread : map to_ascii_lowercase text ++ to_ascii_lowercase c ∷ map to_ascii_lowercase more
    ≡ flat_map hex_text octets = simp (map-append, append_assoc) at is in
    let found = digit_at octets (map to_ascii_lowercase text) (to_ascii_lowercase c) (map to_ascii_lowercase more)
    are spread in
    other found.0 found.1 found.2

even : (octets : List ℕ) → length (flat_map hex_text octets) ≡ 2 * length octets
even [] = refl
even (x ∷ octets) = omega (arith, even octets)

-- after an open digit a text isn't whole
pub not_whole : (text octets other : List ℕ) (value : ℕ)
    → map to_ascii_lowercase text ≡ flat_map hex_text octets ++ digit_char value ∷ [] → IsHexText text other → ⊥
not_whole text octets other value same is =
    let lengths = ap length (sym same ∙ is) in
    let first = length-append (flat_map hex_text octets) (digit_char value ∷ []) in
    absurd (omega (arith, lengths, first, even octets, even other))

octets_then : (octets : List ℕ) (a : ℕ) → AreOctets octets → a < 256 → AreOctets (octets ++ a ∷ [])
octets_then [] a are small = (small, tt)
octets_then (x ∷ octets) a are small = (are.0, octets_then octets a are.1 small)

-- ---- what was read goes on to a text

pub hex_goes_on : (high : Option ℕ) (text octets : List ℕ) → unwrap_or high 0 < 16 → AreOctets octets
    → map to_ascii_lowercase text ≡ flat_map hex_text octets ++ open_digit high
    → (more all : List ℕ) × AreOctets all × IsHexText (text ++ more) all
hex_goes_on None text octets small are same =
    ([], octets, are, ap (map to_ascii_lowercase) (append-nil text) ∙ same ∙ append-nil (flat_map hex_text octets))
hex_goes_on (Some value) text octets small are same =
    let octet = value * 16 in
    let high : value ≡ octet / 16 = omega arith in
    let low : 0 ≡ octet % 16 = omega arith in (
      48 ∷ [],
      octets ++ octet ∷ [],
      octets_then octets octet are (omega (arith, small)),
      map-append to_ascii_lowercase text (48 ∷ []) ∙ ap (λ t. t ++ 48 ∷ []) same
          ∙ append_assoc (flat_map hex_text octets) (digit_char value ∷ []) (48 ∷ [])
          ∙ (λ i. flat_map hex_text octets ++ (digit_char (high i) ∷ digit_char (low i) ∷ []))
          ∙ sym (flat_map-append hex_text octets (octet ∷ [])),
    )

-- ---- the text that is written is in lower case

lower_16 : (v : ℕ) → v < 16 → to_ascii_lowercase (digit_char v) ≡ digit_char v
lower_16 v small = grind (arith, nat_tests)

pub hex_written : (octets : List ℕ) → AreOctets octets → IsHexText (flat_map hex_text octets) octets
hex_written [] are = refl
hex_written (x ∷ octets) are =
    let high = lower_16 (x / 16) (omega (arith, are.0)) in
    let low = lower_16 (x % 16) (omega arith) in
    let rest = hex_written octets are.1 in
    λ i. high i ∷ low i ∷ rest i
