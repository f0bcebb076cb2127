-- What was read so far is discarded.
use Rattle.std.proofs.Common.{List, ℕ}
use Rattle.std.specs.Io.KnownBytes.{Consumes}
use Rattle.octseq_cli.proofs.streams.drop_rest.Given as goal

abbrev pub invariant-loop : goal.invariant-loop
invariant-loop g l =
    (read : List ℕ) × Consumes (g.R.Read.remaining l.fn.reader) (g.R.Read.remaining l.reader) read
