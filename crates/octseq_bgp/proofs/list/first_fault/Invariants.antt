-- Some values were passed.
use Rattle.std.proofs.Common.{List}
use Rattle.octseq.specs.Parser.{window}
use Rattle.octseq.specs.Window.{left}
use Rattle.octseq_format.specs.Row.{Row}
use Rattle.octseq_bgp.proofs.list.first_fault.Given as goal

abbrev pub invariant-items : goal.invariant-items
invariant-items g l = (row : List g.F.Format.Found) × Row g.F.Format.is_at (window l.fn.parser) row (window l.ahead)

abbrev pub decreases-items : goal.decreases-items
decreases-items g l = left (window l.ahead)
