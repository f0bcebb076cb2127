-- What was consumed from the reader is what was filled.
use Rattle.std.proofs.Common.{◌<◌, length, take}
use Rattle.std.specs.Io.KnownBytes.{Consumes}
use Rattle.octseq_stream.proofs.read_exact.fill.Given as goal

abbrev pub invariant-loop : goal.invariant-loop
invariant-loop g l = (l.filled < length l.octets)
    × Consumes (g.R.Read.remaining l.fn.reader) (g.R.Read.remaining l.reader) (take l.filled l.octets)
