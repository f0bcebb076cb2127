-- What is written, and the lines of what is ahead, are all the lines; the numbers fit.
use Rattle.std.proofs.Common.{◌≡◌, ◌+◌, ◌≤◌, ◌++◌, ℕ, List, length}
use Rattle.std.specs.Fmt.{HasWritten, IsPlainFormatter}
use Rattle.octseq_mrt.specs.Parsed.{peers_left}
use Rattle.octseq_mrt.specs.RecordText.{peer_lines}
use Rattle.octseq_mrt.proofs.text.lines.write_peers.Given as goal

abbrev pub invariant-loop-peer : goal.invariant-loop-peer
invariant-loop-peer g l = record {
  done : List ℕ;
  written : IsPlainFormatter l.initial.f → HasWritten g.W.Write.write_str_gives l.initial.f done l.f;
  whole : done ++ peer_lines l.number (peers_left l.peer-iterator) ≡ peer_lines 0 (peers_left l.fn.peers);
  fits : l.number + length (peers_left l.peer-iterator) ≤ l._most;
}
