-- Some items were passed.
use Rattle.std.proofs.Common.{◌≡◌, ◌+◌, ◌*◌, ◌≤◌, List}
use Rattle.octseq.specs.Parser.{sequence, window}
use Rattle.octseq.specs.Window.{left}
use Rattle.octseq_format.specs.Row.{Many, row_turns}
use Rattle.octseq_format.specs.Until.{IsItem}
use Rattle.octseq_format.proofs.until.skip_until.Given as goal

abbrev pub invariant-items : goal.invariant-items
invariant-items g l =
    let f = g.F.Family in
    record {
      all : (row : List f.Found) × Many l.count (IsItem g.row.END g.N.Number.is_at f.is_at) (window l.fn.parser) row
          (window l.parser) × (l.fn.turns + row_turns f.turns_of row ≤ l.turns);
      offset : l.end ≡ (window l.parser).position;
      few : l.count ≤ l.end;
      onward : left (window l.parser) ≤ left (window l.fn.parser);
      same : sequence l.parser ≡ sequence l.fn.parser;
      end : (window l.parser).end ≡ (window l.fn.parser).end;
      some : l.fn.turns ≤ l.turns;
      took : l.turns + (f.base + 1 + f.rate) * left (window l.parser)
          ≤ l.fn.turns + (f.base + 1 + f.rate) * left (window l.fn.parser);
    }

abbrev pub decreases-items : goal.decreases-items
decreases-items g l = left (window l.parser)
