-- Hexadecimal text, in letters of either case.
use Rattle.std.specs.Prelude.{◌≡◌, ℕ, List, map}
use Rattle.std.specs.Char.{to_ascii_lowercase}
use Rattle.std.specs.List.{flat_map}
use Rattle.octseq.specs.OctetsText.{hex_text}

-- in lower case it is the text that is written of these octets
abbrev pub IsHexText : List ℕ → List ℕ → Type 0
IsHexText text octets = map to_ascii_lowercase text ≡ flat_map hex_text octets
