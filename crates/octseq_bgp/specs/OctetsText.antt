-- The text of numbers as addresses and in hexadecimal.
use Rattle.std.specs.Prelude.{ℕ, ◌/◌, ◌%◌, List, ◌∷◌, ◌++◌}
use Rattle.std.specs.Net.Text.{dotted_text}
use Rattle.octseq.specs.OctetsText.{hex_text}

-- a text after a space (32)
abbrev pub spaced : List ℕ → List ℕ
spaced text = 32 ∷ text

-- the four octets of a number
abbrev pub first_octet : ℕ → ℕ
first_octet n = n / 16777216

abbrev pub second_octet : ℕ → ℕ
second_octet n = n / 65536 % 256

abbrev pub third_octet : ℕ → ℕ
third_octet n = n / 256 % 256

abbrev pub fourth_octet : ℕ → ℕ
fourth_octet n = n % 256

-- a number as an IPv4 address
unfoldable pub number_dotted : ℕ → List ℕ
number_dotted n = dotted_text (first_octet n) (second_octet n) (third_octet n) (fourth_octet n)

-- a number as eight hexadecimal digits
abbrev pub number_hex : ℕ → List ℕ
number_hex n = hex_text (first_octet n) ++ hex_text (second_octet n) ++ hex_text (third_octet n)
    ++ hex_text (fourth_octet n)
