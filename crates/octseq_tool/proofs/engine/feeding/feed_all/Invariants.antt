-- What the reader gave was fed, and there is room for more.
use Rattle.std.proofs.Common.{◌<◌}
use Rattle.std.specs.Prelude.{vec_len}
use Rattle.octseq_tool.proofs.Feeding.{IsFed}
use Rattle.octseq_tool.proofs.engine.feeding.feed_all.Given as goal

abbrev pub invariant-loop : goal.invariant-loop
invariant-loop g l =
    IsFed g.F.Feed.has_read (g.R.Read.remaining l.fn.reader) (g.R.Read.remaining l.reader) l.fed × (0 < vec_len l.piece)
