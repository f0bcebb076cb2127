use Rattle.octseq_c.proofs.Wholes.{replaced}
use Rattle.octseq_c.proofs.settled.replacement.Goals as goal

pub returns-else-is_empty : goal.returns-else-is_empty
returns-else-is_empty c = replaced c.args.end.now c.is_empty.result c.is_empty.ensures c.if-is_empty.false
