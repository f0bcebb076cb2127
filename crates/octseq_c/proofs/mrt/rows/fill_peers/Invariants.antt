-- The rows so far, and those of the peers that are left, are all rows. What follows them is unchanged.
use Rattle.std.proofs.Common.{◌≡◌, ◌+◌, ◌++◌, map, take, drop, length}
use Rattle.octseq_mrt.specs.Parsed.{peers_left}
use Rattle.octseq_c.specs.MrtRows.{row_of_peer}
use Rattle.octseq_c.proofs.mrt.rows.fill_peers.Given as goal

abbrev pub invariant-loop-peer : goal.invariant-loop-peer
invariant-loop-peer g l = record {
  end : l.at + length (peers_left l.peer-iterator) ≡ l.fn.from + length (peers_left l.fn.peers);
  whole : take l.at l.out ++ map row_of_peer (peers_left l.peer-iterator)
      ≡ take l.fn.from l.fn.out ++ map row_of_peer (peers_left l.fn.peers);
  rest : drop l.at l.out ≡ drop l.at l.fn.out;
  long : length l.out ≡ length l.fn.out;
}
