-- Base 64 text (RFC 4648, 4).
use Rattle.std.specs.Prelude.{◌≡◌, ℕ, ◌+◌, ◌-◌, ◌*◌, ◌/◌, ◌%◌, if◌then◌else◌, nat_lt, ◌==◌, List, [], ◌∷◌}
use Rattle.std.specs.Prelude.{◌++◌, map, take, codes}

-- three octets as four numbers of six bits
abbrev pub sextets : List ℕ → List ℕ
sextets (a ∷ b ∷ c ∷ _) = a / 4 ∷ (a % 4 * 16 + b / 16) ∷ (b % 16 * 4 + c / 64) ∷ c % 64 ∷ []
sextets _ = []

-- the base 64 digit of a number of six bits: `A` to `Z`, `a` to `z`, `0` to `9`, `+` and `/`
abbrev pub base64_digit : ℕ → ℕ
base64_digit value = if nat_lt value 26 then 65 + value else (if nat_lt value 52 then 71 + value
    else (if nat_lt value 62 then value - 4 else (if value == 62 then 43 else 47)))

-- Octets in base 64 (RFC 4648, 4): a last group of one or two octets is padded with zero bits, and shown as the digits
-- that hold bits of it, and `=` up to four.
abbrev pub base64_text : List ℕ → List ℕ
base64_text [] = []
base64_text (a ∷ []) = map base64_digit (take 2 (sextets (a ∷ 0 ∷ 0 ∷ []))) ++ codes "=="
base64_text (a ∷ b ∷ []) = map base64_digit (take 3 (sextets (a ∷ b ∷ 0 ∷ []))) ++ codes "="
base64_text (a ∷ b ∷ c ∷ more) = map base64_digit (sextets (a ∷ b ∷ c ∷ [])) ++ base64_text more

-- it is the text that is written of these octets
abbrev pub IsBase64Text : List ℕ → List ℕ → Type 0
IsBase64Text text octets = text ≡ base64_text octets
