-- A place in base 64 text, and what was read before it.
use Rattle.std.specs.Prelude.{◌≡◌, ◌≢◌, ℕ, ◌+◌, ◌*◌, ◌/◌, ◌%◌, List, [], ◌∷◌, ◌++◌, length, take}
use Rattle.octseq_dns_scan.specs.Base64.{base64_digit, base64_text}
use Rattle.octseq_dns_scan.specs.declared.base64.Place.{Place}
use Rattle.octseq_dns_scan.specs.declared.base64.Place.TheVariants.{Whole, One, Two, Three, Mark, End}

-- the bits that are left there of the digits read are a number below this
abbrev pub bits_end : Place → ℕ
bits_end Whole = 1
bits_end One = 64
bits_end Two = 16
bits_end Three = 4
bits_end Mark = 1
bits_end End = 1

-- whole groups of three octets
abbrev pub AreGroupsOfThree : List ℕ → Type 0
AreGroupsOfThree octets = length octets % 3 ≡ 0

-- The text of whole groups, then one digit, two, three, or two and `=`; or a text after whose last group none follows.
abbrev pub EndsAtDigit : Place → ℕ → List ℕ → List ℕ → Type 0
EndsAtDigit Whole bits text octets = AreGroupsOfThree octets × (text ≡ base64_text octets)
EndsAtDigit One bits text octets = AreGroupsOfThree octets × (text ≡ base64_text octets ++ base64_digit bits ∷ [])
EndsAtDigit Two bits text octets = (groups : List ℕ) × (a : ℕ) × AreGroupsOfThree groups × (octets ≡ groups ++ a ∷ [])
    × (text ≡ base64_text groups ++ (base64_digit (a / 4) ∷ base64_digit (a % 4 * 16 + bits) ∷ []))
EndsAtDigit Three bits text octets = (groups : List ℕ) × (a : ℕ) × (b : ℕ) × AreGroupsOfThree groups
    × (octets ≡ groups ++ (a ∷ b ∷ []))
    × (text ≡ base64_text groups ++ (base64_digit (a / 4) ∷ base64_digit (a % 4 * 16 + b / 16)
    ∷ base64_digit (b % 16 * 4 + bits) ∷ []))
EndsAtDigit Mark bits text octets = (groups : List ℕ) × (a : ℕ) × AreGroupsOfThree groups × (octets ≡ groups ++ a ∷ [])
    × (text ≡ base64_text groups ++ take 3 (base64_text (a ∷ [])))
EndsAtDigit End bits text octets = (length octets % 3 ≢ 0) × (text ≡ base64_text octets)
