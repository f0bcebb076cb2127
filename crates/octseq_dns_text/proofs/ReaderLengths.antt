-- How many octets a reader makes of a text.
use Rattle.std.proofs.Common.{◌≡◌, ℕ, ◌+◌, ◌*◌, ◌%◌, ◌≤◌, List, [], ◌∷◌, ◌++◌, map, length, take, refl, ap, arith}
use Rattle.std.proofs.Common.{length-append, Option, Some, None}
use Rattle.std.proofs.lemmas.List.{length-map}
use Rattle.std.specs.Char.{to_ascii_lowercase}
use Rattle.std.specs.List.{flat_map}
use Rattle.octseq.specs.OctetsText.{hex_text}
use Rattle.octseq_dns_scan.specs.Base64.{base64_text}
use Rattle.octseq_dns_scan.specs.Base64Place.{EndsAtDigit}
use Rattle.octseq_dns_scan.specs.HexRead.{HasReadHex, open_digit}
use Rattle.octseq_dns_scan.specs.declared.base64.Place.{Place}
use Rattle.octseq_dns_scan.specs.declared.base64.Place.TheVariants.{Whole, One, Two, Three, Mark, End}
use Rattle.octseq_dns_scan.specs.declared.hex.HexReader.{HexReader}

pub even : (octets : List ℕ) → length (flat_map hex_text octets) ≡ 2 * length octets
even [] = refl
even (x ∷ octets) = omega (arith, even octets)

few : (high : Option ℕ) → length (open_digit high) ≤ 1
few None = omega arith
few (Some value) = omega arith

-- hexadecimal: one for each pair of digits
pub hex_length : (reader : HexReader) (text octets : List ℕ) → HasReadHex reader text octets
    → (2 * length octets ≤ length text) × (length text ≤ 2 * length octets + 1)
hex_length reader text octets read =
    let lengths = ap length read.same in
    let of_text = length-map {B = ℕ} text to_ascii_lowercase in
    let of_octets = length-append (flat_map hex_text octets) (open_digit reader.high) in
    let pairs = even octets in
    let one = few reader.high in
    (omega (arith, lengths, of_text, of_octets, pairs, one), omega (arith, lengths, of_text, of_octets, pairs, one))

-- base 64: three for each group of four digits
text_length : (octets : List ℕ) → (4 * length octets ≤ 3 * length (base64_text octets))
    × (3 * length (base64_text octets) ≤ 4 * length octets + 8)
text_length [] = (omega arith, omega arith)
text_length (a ∷ []) = (omega arith, omega arith)
text_length (a ∷ b ∷ []) = (omega arith, omega arith)
text_length (a ∷ b ∷ c ∷ more) =
    let rest = text_length more in
    (omega (arith, rest.0), omega (arith, rest.1))

groups_length : (octets : List ℕ) → length octets % 3 ≡ 0 → 3 * length (base64_text octets) ≡ 4 * length octets
groups_length [] whole = refl
groups_length (a ∷ []) whole = absurd (omega (arith, whole))
groups_length (a ∷ b ∷ []) whole = absurd (omega (arith, whole))
groups_length (a ∷ b ∷ c ∷ more) whole = omega (arith, groups_length more (omega (arith, whole)))

pub base64_length : (place : Place) (bits : ℕ) (text octets : List ℕ) → EndsAtDigit place bits text octets
    → (4 * length octets ≤ 3 * length text) × (3 * length text ≤ 4 * length octets + 8)
base64_length Whole bits text octets (whole, same) =
    let lengths = ap length same in
    let all = text_length octets in
    (omega (arith, lengths, all.0), omega (arith, lengths, all.1))
base64_length One bits text octets (whole, same) =
    let lengths = simp length-append at (ap length same) in
    let all = groups_length octets whole in
    (omega (arith, lengths, all), omega (arith, lengths, all))
base64_length Two bits text octets (groups, a, whole, parts, same) =
    let lengths = simp length-append at (ap length same) in
    let all = groups_length groups whole in
    let of_parts = simp length-append at (ap length parts) in
    (omega (arith, lengths, all, of_parts), omega (arith, lengths, all, of_parts))
base64_length Three bits text octets (groups, a, b, whole, parts, same) =
    let lengths = simp length-append at (ap length same) in
    let all = groups_length groups whole in
    let of_parts = simp length-append at (ap length parts) in
    (omega (arith, lengths, all, of_parts), omega (arith, lengths, all, of_parts))
base64_length Mark bits text octets (groups, a, whole, parts, same) =
    let lengths = simp length-append at (ap length same) in
    let all = groups_length groups whole in
    let of_parts = simp length-append at (ap length parts) in
    (omega (arith, lengths, all, of_parts), omega (arith, lengths, all, of_parts))
base64_length End bits text octets (odd, same) =
    let lengths = ap length same in
    let all = text_length octets in
    (omega (arith, lengths, all.0), omega (arith, lengths, all.1))
