-- Some of the octets were read.
use Rattle.std.proofs.Common.{◌≡◌, ◌+◌, ◌++◌, ℕ, List, length}
use Rattle.std.specs.Io.KnownBytes.{Consumes}
use Rattle.octseq_stream.proofs.read_exact.append_octets.Given as goal

abbrev pub invariant-steps : goal.invariant-steps
invariant-steps g l = (read : List ℕ) × (length read + l.left ≡ l.fn.len)
    × (l.octets.items ≡ l.fn.octets.items ++ read)
    × Consumes (g.R.Read.remaining l.fn.reader) (g.R.Read.remaining l.reader) read

abbrev pub decreases-steps : goal.decreases-steps
decreases-steps g l = l.left
