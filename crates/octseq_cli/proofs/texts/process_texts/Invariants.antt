-- The texts so far were processed.
use Rattle.octseq_cli.proofs.TextSteps.{IsTexted}
use Rattle.octseq_cli.proofs.texts.process_texts.Given as goal

abbrev pub invariant-loop-index : goal.invariant-loop-index
invariant-loop-index g l =
    IsTexted (g.C.FrameCommand.is_piece l.fn.command) (g.R.Read.remaining l.fn.reader) (g.R.Read.remaining l.reader)
    (g.W.Write.contents l.fn.writer) (g.W.Write.contents l.writer) (g.E.Write.contents l.fn.errors)
    (g.E.Write.contents l.errors) l.index l.is_all l.is_noted
