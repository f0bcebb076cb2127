-- `taken` of them were passed.
use Rattle.std.proofs.Common.{◌+◌, ◌≤◌, List}
use Rattle.octseq.specs.Parser.{window}
use Rattle.octseq.specs.Window.{left}
use Rattle.octseq_format.specs.Row.{Many}
use Rattle.octseq_mrt.specs.Peer.{Peer, IsPeer}
use Rattle.octseq_mrt.proofs.peer.skip_peers.Given as goal

abbrev pub invariant-loop-taken : goal.invariant-loop-taken
invariant-loop-taken g l = record {
  all : (row : List Peer) × Many l.taken IsPeer (window l.fn.parser) row (window l.parser);
  least : l.fn.turns + l.taken ≤ l.turns;
  turns : l.turns + left (window l.parser) ≤ l.fn.turns + left (window l.fn.parser);
}
