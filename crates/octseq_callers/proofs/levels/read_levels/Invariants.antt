-- The octets were read as the levels so far, and each turn takes one of the octets that are left.
use Rattle.octseq.proofs.Repeats.{IsReadTo}
use Rattle.octseq.specs.Integer.{IsSigned}
use Rattle.octseq.specs.Parser.{window}
use Rattle.octseq.specs.Window.{left, rest}
use Rattle.octseq_callers.specs.Levels.{level_of}
use Rattle.octseq_callers.proofs.levels.read_levels.Given as goal

abbrev pub invariant-loop-parser : goal.invariant-loop-parser
invariant-loop-parser g l = IsReadTo (IsSigned 2) level_of (g.R.AsOctets.content l.fn.octets) (rest (window l.parser))
    l.levels.items

abbrev pub decreases-loop-parser : goal.decreases-loop-parser
decreases-loop-parser g l = left (window l.parser)
