-- Levels: signed integers of 2 octets, big-endian.
use Rattle.std.specs.Prelude.{ℕ, ℤ, List}
use Rattle.octseq.specs.Integer.{octets_be, unsigned}

-- the octets of a level
abbrev pub level_of : ℤ → List ℕ
level_of level = octets_be 2 (unsigned 2 level)
