-- A place in base 32 text, and what was read before it.
use Rattle.std.specs.Prelude.{◌≡◌, ℕ, ◌*◌, ◌%◌, List, [], ◌∷◌, ◌++◌, length, map, take}
use Rattle.std.specs.Char.{digit_char}
use Rattle.octseq_dns_scan.specs.Base32hex.{quintets, base32hex_text}
use Rattle.octseq_dns_scan.specs.declared.base32hex.Place.{Place}
use Rattle.octseq_dns_scan.specs.declared.base32hex.Place.TheVariants.{Whole, One, Two, Three, Four, Five, Six, Seven}

-- the bits that are left there of the digits read are a number below this
abbrev pub bits_end : Place → ℕ
bits_end Whole = 1
bits_end One = 32
bits_end Two = 4
bits_end Three = 128
bits_end Four = 16
bits_end Five = 2
bits_end Six = 64
bits_end Seven = 8

-- whole groups of five octets
abbrev pub AreGroupsOfFive : List ℕ → Type 0
AreGroupsOfFive octets = length octets % 5 ≡ 0

-- The text, in lower case, of whole groups, and then the first digits of one more: those of its octets so far, and of
-- the bits that are left.
abbrev pub EndsAtBits : Place → ℕ → List ℕ → List ℕ → Type 0
EndsAtBits Whole bits text octets = AreGroupsOfFive octets × (text ≡ base32hex_text octets)
EndsAtBits One bits text octets = AreGroupsOfFive octets × (text ≡ base32hex_text octets
    ++ map digit_char (take 1 (quintets (bits * 8 ∷ 0 ∷ 0 ∷ 0 ∷ 0 ∷ []))))
EndsAtBits Two bits text octets = (groups : List ℕ) × (a : ℕ) × AreGroupsOfFive groups
    × (octets ≡ groups ++ (a ∷ []))
    × (text ≡ base32hex_text groups ++ map digit_char (take 2 (quintets (a ∷ bits * 64 ∷ 0 ∷ 0 ∷ 0 ∷ []))))
EndsAtBits Three bits text octets = (groups : List ℕ) × (a : ℕ) × AreGroupsOfFive groups
    × (octets ≡ groups ++ (a ∷ []))
    × (text ≡ base32hex_text groups ++ map digit_char (take 3 (quintets (a ∷ bits * 2 ∷ 0 ∷ 0 ∷ 0 ∷ []))))
EndsAtBits Four bits text octets = (groups : List ℕ) × (a : ℕ) × (b : ℕ) × AreGroupsOfFive groups
    × (octets ≡ groups ++ (a ∷ b ∷ []))
    × (text ≡ base32hex_text groups ++ map digit_char (take 4 (quintets (a ∷ b ∷ bits * 16 ∷ 0 ∷ 0 ∷ []))))
EndsAtBits Five bits text octets = (groups : List ℕ) × (a : ℕ) × (b : ℕ) × (c : ℕ) × AreGroupsOfFive groups
    × (octets ≡ groups ++ (a ∷ b ∷ c ∷ []))
    × (text ≡ base32hex_text groups ++ map digit_char (take 5 (quintets (a ∷ b ∷ c ∷ bits * 128 ∷ 0 ∷ []))))
EndsAtBits Six bits text octets = (groups : List ℕ) × (a : ℕ) × (b : ℕ) × (c : ℕ) × AreGroupsOfFive groups
    × (octets ≡ groups ++ (a ∷ b ∷ c ∷ []))
    × (text ≡ base32hex_text groups ++ map digit_char (take 6 (quintets (a ∷ b ∷ c ∷ bits * 4 ∷ 0 ∷ []))))
EndsAtBits Seven bits text octets = (groups : List ℕ) × (a : ℕ) × (b : ℕ) × (c : ℕ) × (d : ℕ) × AreGroupsOfFive groups
    × (octets ≡ groups ++ (a ∷ b ∷ c ∷ d ∷ []))
    × (text ≡ base32hex_text groups ++ map digit_char (take 7 (quintets (a ∷ b ∷ c ∷ d ∷ bits * 32 ∷ []))))
