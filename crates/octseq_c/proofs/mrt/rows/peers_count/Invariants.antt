-- Those that were counted, and those that are left, are all.
use Rattle.std.proofs.Common.{◌≡◌, ◌+◌, length}
use Rattle.octseq_mrt.specs.Parsed.{peers_left}
use Rattle.octseq_c.proofs.mrt.rows.peers_count.Given as goal

abbrev pub invariant-loop-peer : goal.invariant-loop-peer
invariant-loop-peer g l = record {
  all : l.count + length (peers_left l._peer-iterator) ≡ length (peers_left l.fn.peers);
}
