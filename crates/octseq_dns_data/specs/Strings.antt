-- Character strings as they are in data: RFC 1035, 3.3 and 3.3.14.
use Rattle.std.specs.Prelude.{◌≡◌, ℕ, ◌≤◌, List, length}
use Rattle.std.specs.List.{flat_map}
use Rattle.octseq.specs.Part.{HasPart, part, past_part, part_of}
use Rattle.octseq.specs.Window.{Window, rest}
use Rattle.octseq_format.specs.Row.{Row}

-- a character string: octets after their length, which has one octet
abbrev pub HasString : Window → List ℕ → Window → Type 0
HasString w string v = HasPart 1 w × (string ≡ rest (part 1 w)) × (v ≡ past_part 1 w)

-- one or more strings, one after another
abbrev pub HasStrings : Window → List (List ℕ) → Window → Type 0
HasStrings w strings v = (1 ≤ length strings) × Row HasString w strings v

-- each string after its length, which has one octet
abbrev pub spelling : List (List ℕ) → List ℕ
spelling strings = flat_map (part_of 1) strings
