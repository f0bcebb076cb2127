-- `taken` of them were passed.
use Rattle.std.proofs.Common.{◌+◌, ◌≤◌, List}
use Rattle.octseq.specs.Parser.{window}
use Rattle.octseq.specs.Window.{left}
use Rattle.octseq_format.specs.Row.{Many}
use Rattle.octseq_mrt.specs.ReadTurns.{entries_turns}
use Rattle.octseq_mrt.specs.Rib.{RibEntry, IsRibEntry}
use Rattle.octseq_mrt.proofs.rib.skip_entries.Given as goal

abbrev pub invariant-loop-taken : goal.invariant-loop-taken
invariant-loop-taken g l = record {
  all : (row : List RibEntry) × Many l.taken (IsRibEntry l.fn.paths) (window l.fn.parser) row (window l.parser);
  least : l.fn.turns + entries_turns all.0 ≤ l.turns;
  turns : l.turns + left (window l.parser) ≤ l.fn.turns + left (window l.fn.parser);
}
