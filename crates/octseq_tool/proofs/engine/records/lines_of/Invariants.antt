-- The records so far have their lines, and each turn takes one of the octets that are left.
use Rattle.octseq.specs.Parser.{window}
use Rattle.octseq.specs.Window.{left, rest}
use Rattle.octseq_tool.proofs.Records.{IsReadTo}
use Rattle.octseq_tool.proofs.engine.records.lines_of.Given as goal

abbrev pub invariant-loop-parser : goal.invariant-loop-parser
invariant-loop-parser l = IsReadTo l.input (rest (window l.parser)) l.output.items

abbrev pub decreases-loop-parser : goal.decreases-loop-parser
decreases-loop-parser l = left (window l.parser)
