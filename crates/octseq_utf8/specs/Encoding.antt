-- UTF-8, by Table 3-7 of the Unicode Standard, chapter 3. Nothing here depends on std's definition of it.
use Rattle.std.specs.Prelude.{ℕ, ◌+◌, ◌-◌, ◌*◌, ◌/◌, ◌%◌, ◌⊎◌, List, [], ◌∷◌, if◌then◌else◌, nat_lt}
use Rattle.std.specs.Int.{IsInRange}

-- The octets of one character: a constructor for each row of the table, with a range for each octet.
pub data IsEncoding : List ℕ → Type 0 where
  row_00_7F : {a : ℕ} → IsInRange 0x00 0x7F a → IsEncoding (a ∷ [])
  row_C2_DF : {a b : ℕ} → IsInRange 0xC2 0xDF a → IsInRange 0x80 0xBF b → IsEncoding (a ∷ b ∷ [])
  row_E0 : {a b c : ℕ} → IsInRange 0xE0 0xE0 a → IsInRange 0xA0 0xBF b → IsInRange 0x80 0xBF c
      → IsEncoding (a ∷ b ∷ c ∷ [])
  row_E1_EC : {a b c : ℕ} → IsInRange 0xE1 0xEC a → IsInRange 0x80 0xBF b → IsInRange 0x80 0xBF c
      → IsEncoding (a ∷ b ∷ c ∷ [])
  row_ED : {a b c : ℕ} → IsInRange 0xED 0xED a → IsInRange 0x80 0x9F b → IsInRange 0x80 0xBF c
      → IsEncoding (a ∷ b ∷ c ∷ [])
  row_EE_EF : {a b c : ℕ} → IsInRange 0xEE 0xEF a → IsInRange 0x80 0xBF b → IsInRange 0x80 0xBF c
      → IsEncoding (a ∷ b ∷ c ∷ [])
  row_F0 : {a b c d : ℕ} → IsInRange 0xF0 0xF0 a → IsInRange 0x90 0xBF b → IsInRange 0x80 0xBF c → IsInRange 0x80 0xBF d
      → IsEncoding (a ∷ b ∷ c ∷ d ∷ [])
  row_F1_F3 : {a b c d : ℕ} → IsInRange 0xF1 0xF3 a → IsInRange 0x80 0xBF b → IsInRange 0x80 0xBF c
      → IsInRange 0x80 0xBF d → IsEncoding (a ∷ b ∷ c ∷ d ∷ [])
  row_F4 : {a b c d : ℕ} → IsInRange 0xF4 0xF4 a → IsInRange 0x80 0x8F b → IsInRange 0x80 0xBF c → IsInRange 0x80 0xBF d
      → IsEncoding (a ∷ b ∷ c ∷ d ∷ [])

-- The number of the character that an encoding encodes.
unfoldable pub number_of : List ℕ → ℕ
number_of (a ∷ []) = a
number_of (a ∷ b ∷ []) = (a - 0xC0) * 0x40 + (b - 0x80)
number_of (a ∷ b ∷ c ∷ []) = (a - 0xE0) * 0x1000 + (b - 0x80) * 0x40 + (c - 0x80)
number_of (a ∷ b ∷ c ∷ d ∷ []) = (a - 0xF0) * 0x4_0000 + (b - 0x80) * 0x1000 + (c - 0x80) * 0x40 + (d - 0x80)
number_of _ = 0

-- A character is a number in one of these two ranges.
abbrev pub IsCharacter : ℕ → Type 0
IsCharacter c = IsInRange 0 0xD7FF c ⊎ IsInRange 0xE000 0x10_FFFF c

-- The encoding of a character: the one whose number is the character.
unfoldable pub encoding_of : ℕ → List ℕ
encoding_of c = if nat_lt c 0x80 then c ∷ []
    else (if nat_lt c 0x800 then (0xC0 + c / 0x40) ∷ (0x80 + c % 0x40) ∷ []
    else (if nat_lt c 0x1_0000 then (0xE0 + c / 0x1000) ∷ (0x80 + c / 0x40 % 0x40) ∷ (0x80 + c % 0x40) ∷ []
    else (0xF0 + c / 0x4_0000) ∷ (0x80 + c / 0x1000 % 0x40) ∷ (0x80 + c / 0x40 % 0x40) ∷ (0x80 + c % 0x40) ∷ []))
