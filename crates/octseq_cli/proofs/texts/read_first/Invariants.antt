-- Line feeds were read.
use Rattle.std.proofs.Common.{ℕ, List}
use Rattle.std.specs.Io.KnownBytes.{Consumes}
use Rattle.octseq_cli.specs.Texts.{AreFeeds}
use Rattle.octseq_cli.proofs.texts.read_first.Given as goal

abbrev pub invariant-loop : goal.invariant-loop
invariant-loop g l = (feeds : List ℕ) × AreFeeds feeds
    × Consumes (g.R.Read.remaining l.fn.reader) (g.R.Read.remaining l.reader) feeds
