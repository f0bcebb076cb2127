-- Nothing was read.
use Rattle.std.proofs.Common.{◌≡◌, [], length}
use Rattle.std.specs.Io.KnownBytes.{Consumes}
use Rattle.octseq_cli.proofs.texts.read_octet.Given as goal

abbrev pub invariant-loop : goal.invariant-loop
invariant-loop g l = (length l.room ≡ 1) × Consumes (g.R.Read.remaining l.fn.reader) (g.R.Read.remaining l.reader) []
