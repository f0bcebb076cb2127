-- Base 32 text, with the digits `0` to `9` and `a` to `v` (RFC 4648, 7).
use Rattle.std.specs.Prelude.{◌≡◌, ℕ, ◌+◌, ◌*◌, ◌/◌, ◌%◌, List, [], ◌∷◌, ◌++◌, map, take}
use Rattle.std.specs.Char.{digit_char, to_ascii_lowercase}

-- five octets as eight numbers of five bits
abbrev pub quintets : List ℕ → List ℕ
quintets (a ∷ b ∷ c ∷ d ∷ e ∷ _) = a / 8 ∷ (a % 8 * 4 + b / 64) ∷ b / 2 % 32 ∷ (b % 2 * 16 + c / 16)
    ∷ (c % 16 * 2 + d / 128) ∷ d / 4 % 32 ∷ (d % 4 * 8 + e / 32) ∷ e % 32 ∷ []
quintets _ = []

-- Octets in base 32 with digits `0` to `9` and `a` to `v` (RFC 4648, 7, in lower case): a last group of four or fewer
-- octets is padded with zero bits, and shown as the digits that hold bits of it, without `=`.
abbrev pub base32hex_text : List ℕ → List ℕ
base32hex_text [] = []
base32hex_text (a ∷ []) = map digit_char (take 2 (quintets (a ∷ 0 ∷ 0 ∷ 0 ∷ 0 ∷ [])))
base32hex_text (a ∷ b ∷ []) = map digit_char (take 4 (quintets (a ∷ b ∷ 0 ∷ 0 ∷ 0 ∷ [])))
base32hex_text (a ∷ b ∷ c ∷ []) = map digit_char (take 5 (quintets (a ∷ b ∷ c ∷ 0 ∷ 0 ∷ [])))
base32hex_text (a ∷ b ∷ c ∷ d ∷ []) = map digit_char (take 7 (quintets (a ∷ b ∷ c ∷ d ∷ 0 ∷ [])))
base32hex_text (a ∷ b ∷ c ∷ d ∷ e ∷ more) = map digit_char (quintets (a ∷ b ∷ c ∷ d ∷ e ∷ [])) ++ base32hex_text more

-- in lower case it is the text that is written of these octets
abbrev pub IsBase32hexText : List ℕ → List ℕ → Type 0
IsBase32hexText text octets = map to_ascii_lowercase text ≡ base32hex_text octets
