-- Some values were passed, and a turn was counted for each.
use Rattle.std.proofs.Common.{◌≡◌, ◌+◌, ◌^◌, ◌<◌, ◌≤◌, List}
use Rattle.octseq.specs.Parser.{window}
use Rattle.octseq.specs.Window.{left}
use Rattle.octseq_format.specs.Row.{Many}
use Rattle.octseq_bgp.proofs.list.skip_all.Given as goal

abbrev pub invariant-items : goal.invariant-items
invariant-items g l = record {
  all : (row : List g.F.Format.Found) × Many l.count g.F.Format.is_at (window l.fn.parser) row (window l.parser);
  ahead : l.left ≡ left (window l.parser);
  few : l.count + l.left < 2 ^ 64;
  least : l.fn.turns + l.count ≤ l.turns;
  turns : l.turns + left (window l.parser) ≤ l.fn.turns + left (window l.fn.parser);
}

abbrev pub decreases-items : goal.decreases-items
decreases-items g l = left (window l.parser)
