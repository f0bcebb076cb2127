-- The counter says how many were passed.
use Rattle.std.proofs.Common.{◌≡◌, ◌+◌, ◌*◌, ◌≤◌, List}
use Rattle.octseq.specs.Parser.{sequence, window}
use Rattle.octseq.specs.Window.{left}
use Rattle.octseq_dns_message.specs.Entry.{IsQuestion, Question}
use Rattle.octseq_dns_message.specs.EntryTurns.{questions_turns}
use Rattle.octseq_format.specs.Row.{Many}
use Rattle.octseq_dns_message.proofs.message.sections.read_questions.Given as goal

abbrev pub invariant-loop-taken : goal.invariant-loop-taken
invariant-loop-taken g l = record {
  all : (row : List Question) × Many l.taken IsQuestion (window l.fn.parser) row (window l.parser);
  least : l.fn.turns + questions_turns all.0 ≤ l.turns;
  same : sequence l.parser ≡ sequence l.fn.parser;
  turns : l.turns + 51 * left (window l.parser) ≤ l.fn.turns + 51 * left (window l.fn.parser);
  entries : l.turns ≤ l.fn.turns + 255 * l.taken;
}
