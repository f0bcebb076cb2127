-- `taken` items were passed.
use Rattle.std.proofs.Common.{◌≡◌, ◌+◌, ◌*◌, ◌≤◌, List}
use Rattle.octseq.specs.Parser.{sequence, window}
use Rattle.octseq.specs.Window.{left}
use Rattle.octseq_format.specs.Row.{Many, row_turns}
use Rattle.octseq_format.proofs.rows.skip_many.Given as goal

abbrev pub invariant-loop-taken : goal.invariant-loop-taken
invariant-loop-taken g l =
    let f = g.F.Format in
    record {
      all : (row : List f.Found) × Many l.taken f.is_at (window l.fn.parser) row (window l.parser)
          × (l.fn.turns + row_turns f.turns_of row ≤ l.turns);
      same : sequence l.parser ≡ sequence l.fn.parser;
      end : (window l.parser).end ≡ (window l.fn.parser).end;
      onward : left (window l.parser) ≤ left (window l.fn.parser);
      some : l.fn.turns ≤ l.turns;
      took : l.turns + (f.base + 1 + f.rate) * left (window l.parser)
          ≤ l.fn.turns + (f.base + 1 + f.rate) * left (window l.fn.parser);
    }
