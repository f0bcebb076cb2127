-- Notes: a number and a few words.
use Rattle.std.specs.Prelude.{◌≡◌, ℕ, List, ◌++◌}
use Rattle.octseq.specs.Integer.{octets_be}
use Rattle.octseq.specs.Part.{part_of}

-- the octet that a note begins with, an N in ASCII
abbrev pub mark : List ℕ
mark = octets_be 1 0x4E

-- it is at the front
abbrev pub HasMark : List ℕ → Type 0
HasMark octets = (more : List ℕ) × (octets ≡ mark ++ more)

-- the octets of a note: the mark, the number in 2 octets, big-endian, and the words after their length of one octet
abbrev pub note_of : ℕ → List ℕ → List ℕ
note_of number words = mark ++ (octets_be 2 number ++ part_of 1 words)
