-- What was written is a front of the output, and the rest is what is left of it.
use Rattle.octseq_cli.proofs.Writing.{IsWritten}
use Rattle.octseq_cli.proofs.streams.write_all.Given as goal

abbrev pub invariant-loop : goal.invariant-loop
invariant-loop g l = IsWritten (g.W.Write.contents l.fn.writer) (g.W.Write.contents l.writer) l.output l.rest
