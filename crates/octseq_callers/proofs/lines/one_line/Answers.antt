use Rattle.octseq_callers.proofs.LineFronts.{some_line, one_line}
use Rattle.octseq_callers.proofs.lines.one_line.Goals as goal

pub returns-clause-exists : goal.returns-clause-exists
returns-clause-exists c = some_line

pub returns-clause-only : goal.returns-clause-only
returns-clause-only c = one_line
