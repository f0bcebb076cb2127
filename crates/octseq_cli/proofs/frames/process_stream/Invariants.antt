-- The frames so far were processed.
use Rattle.octseq_cli.proofs.Taken.{IsStreamed}
use Rattle.octseq_cli.proofs.frames.process_stream.Given as goal

abbrev pub invariant-loop-index : goal.invariant-loop-index
invariant-loop-index g l =
    IsStreamed (g.C.FrameCommand.fits l.fn.command) (g.C.StreamCommand.code l.fn.command)
    (g.C.FrameCommand.is_piece l.fn.command) (g.C.StreamCommand.is_end l.fn.command)
    (g.R.Read.remaining l.fn.reader) (g.R.Read.remaining l.reader) (g.W.Write.contents l.fn.writer)
    (g.W.Write.contents l.writer) (g.E.Write.contents l.fn.errors)
    (g.E.Write.contents l.errors) l.index l.is_all l.is_noted
