-- The numbers so far have two octets each.
use Rattle.std.proofs.Common.{◌*◌, ◌≤◌}
use Rattle.octseq_examples.proofs.parsing.total.Given as goal

abbrev pub invariant-loop-chunk : goal.invariant-loop-chunk
invariant-loop-chunk l = l.total ≤ 65535 * l.chunk-index
