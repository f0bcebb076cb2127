-- Strings that are written as TXT data: RFC 1035, 3.3 and 3.3.14.
use Rattle.std.specs.Prelude.{ℕ, ◌-◌, ◌/◌, ◌≤◌, zero, suc, List, [], ◌∷◌, length, take, drop}
use Rattle.std.specs.List.{All}

-- TXT data is at least one string, and each has at most 255 octets
abbrev pub AreTxtStrings : List (List ℕ) → Type 0
AreTxtStrings strings = (1 ≤ length strings) × All (λ string. length string ≤ 255) strings

-- this many strings of 255 octets, followed by one with the rest
abbrev pub cut_after : ℕ → List ℕ → List (List ℕ)
cut_after zero text = text ∷ []
cut_after (suc more) text = take 255 text ∷ cut_after more (drop 255 text)

-- The strings of a text: each has 255 octets except the last, which has the rest. An empty text is one empty string.
abbrev pub strings_of_text : List ℕ → List (List ℕ)
strings_of_text text = cut_after ((length text - 1) / 255) text
