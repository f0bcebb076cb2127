-- The number of turns that were counted.
use Rattle.std.specs.Prelude.{ℕ, ◌+◌}
use Rattle.octseq_utf8.specs.declared.turns.Count.{Count}
use Rattle.octseq_utf8.specs.declared.turns.Count.TheVariants.{Zero, After'}

-- the number of counts before this one
abbrev pub counts_before : Count → ℕ
counts_before Zero = 0
counts_before (After' _ before) = counts_before before + 1
