-- Some text goes on from what a reader of hexadecimal of a known number of digits has read.
use Rattle.std.proofs.Common.{◌≡◌, ℕ, zero, suc, ◌+◌, ◌-◌, ◌*◌, ◌/◌, ◌%◌, ◌<◌, List, [], ◌∷◌, ◌++◌, map, length, refl}
use Rattle.std.proofs.Common.{sym}
use Rattle.std.proofs.Common.{ap, ◌∙◌, append_assoc, arith, length-append, Option, Some, None, unwrap_or}
use Rattle.std.proofs.lemmas.List.{append-nil, map-append, length-map}
use Rattle.std.proofs.lemmas.List.Concat.{flat_map-append}
use Rattle.std.specs.Char.{digit_char, to_ascii_lowercase}
use Rattle.std.specs.List.{flat_map}
use Rattle.octseq.proofs.WrittenBack.{AreOctets}
use Rattle.octseq.specs.OctetsText.{hex_text}
use Rattle.octseq_dns_scan.specs.Hex.{IsHexText}
use Rattle.octseq_dns_scan.specs.HexRead.{HasReadHex, open_digit}
use Rattle.octseq_dns_text.specs.SizedHex.{IsSizedHexText, HasReadSizedHex}
use Rattle.octseq_dns_text.specs.declared.runs.SizedHexReader.{SizedHexReader}

-- so many octets of zero, and their digits
nulls : ℕ → List ℕ
nulls zero = []
nulls (suc n) = 0 ∷ nulls n

zeros : ℕ → List ℕ
zeros zero = []
zeros (suc n) = 48 ∷ 48 ∷ zeros n

length_zeros : (n : ℕ) → length (zeros n) ≡ 2 * n
unfolding zeros
length_zeros zero = refl
length_zeros (suc n) = omega (arith, length_zeros n)

null_digits : (n : ℕ) → map to_ascii_lowercase (zeros n) ≡ flat_map hex_text (nulls n)
unfolding zeros nulls
null_digits zero = refl
null_digits (suc n) = ap (λ more. 48 ∷ 48 ∷ more) (null_digits n)

octets_then : (octets : List ℕ) (n : ℕ) → AreOctets octets → AreOctets (octets ++ nulls n)
unfolding nulls
octets_then [] zero are = tt
octets_then [] (suc n) are = (omega arith, octets_then [] n tt)
octets_then (x ∷ octets) n are = (are.0, octets_then octets n are.1)

then_zeros : (n : ℕ) (text octets : List ℕ) → IsHexText text octets → IsHexText (text ++ zeros n) (octets ++ nulls n)
then_zeros n text octets is = map-append to_ascii_lowercase text (zeros n) ∙ ap
    (λ front. front ++ map to_ascii_lowercase (zeros n)) is
    ∙ ap (λ more. flat_map hex_text octets ++ more) (null_digits n) ∙ sym (flat_map-append hex_text octets (nulls n))

even : (octets : List ℕ) → length (flat_map hex_text octets) ≡ 2 * length octets
even [] = refl
even (x ∷ octets) = omega (arith, even octets)

-- an open digit is closed by a zero
closed : (text octets : List ℕ) (value : ℕ) → map to_ascii_lowercase text ≡ flat_map hex_text octets ++ digit_char
    value ∷ []
    → value < 16 → IsHexText (text ++ 48 ∷ []) (octets ++ (value * 16) ∷ [])
closed text octets value same small =
    let high : value ≡ (value * 16) / 16 = omega arith in
    let low : 0 ≡ (value * 16) % 16 = omega arith in
    map-append to_ascii_lowercase text (48 ∷ []) ∙ ap (λ t. t ++ 48 ∷ []) same
    ∙ append_assoc (flat_map hex_text octets) (digit_char value ∷ []) (48 ∷ [])
    ∙ (λ i. flat_map hex_text octets ++ (digit_char (high i) ∷ digit_char (low i) ∷ []))
    ∙ sym (flat_map-append hex_text octets ((value * 16) ∷ []))

one_more : (octets : List ℕ) (a : ℕ) → AreOctets octets → a < 256 → AreOctets (octets ++ a ∷ [])
one_more [] a are small = (small, tt)
one_more (x ∷ octets) a are small = (are.0, one_more octets a are.1 small)

pub sized_goes_on : (high : Option ℕ) (digits half : ℕ) (text octets : List ℕ) → unwrap_or high 0 < 16
    → AreOctets octets → map to_ascii_lowercase text ≡ flat_map hex_text octets ++ open_digit high
    → (total : ℕ) → digits + length text ≡ total → total ≡ 2 * half
    → (more all : List ℕ) × AreOctets all × IsSizedHexText total (text ++ more) all
sized_goes_on None digits half text octets small are same total left whole =
    let k = half - length octets in
    let lengths = ap length same in
    let of_text = length-map {B = ℕ} text to_ascii_lowercase in
    let of_octets = length-append (flat_map hex_text octets) [] in
    let doubled : length text ≡ 2 * length octets = omega (arith, lengths, of_text, of_octets, even octets) in
    let all_digits = length-append text (zeros k) in (
      zeros k,
      octets ++ nulls k,
      octets_then octets k are,
      (
        then_zeros k text octets (same ∙ append-nil (flat_map hex_text octets)),
        omega (
          arith,
          all_digits,
          length_zeros k,
        ),
      ),
    )
sized_goes_on (Some value) digits half text octets small are same total left whole =
    let k = half - length octets - 1 in
    let octet = value * 16 in
    let lengths = ap length same in
    let of_text = length-map {B = ℕ} text to_ascii_lowercase in
    let of_octets = length-append (flat_map hex_text octets) (digit_char value ∷ []) in
    let doubled : length text ≡ (2 * length octets) + 1 = omega (arith, lengths, of_text, of_octets, even octets) in
    let all_digits = length-append text (48 ∷ zeros k) in
    let now = then_zeros k (text ++ 48 ∷ []) (octets ++ octet ∷ []) (closed text octets value same small) in
    let regrouped : map to_ascii_lowercase (text ++ 48 ∷ zeros k) ≡ flat_map hex_text
    ((octets ++ octet ∷ []) ++ nulls k) =
    ap (map to_ascii_lowercase) (sym (append_assoc text (48 ∷ []) (zeros k))) ∙ now in (
      48 ∷ zeros k,
      (octets ++ octet ∷ []) ++ nulls k,
      octets_then (octets ++ octet ∷ []) k (one_more octets octet are (omega (arith, small))),
      (regrouped, omega (arith, all_digits, length_zeros k)),
    )
