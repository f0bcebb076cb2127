-- What stops the questions that are left stops all of them.
use Rattle.std.proofs.Common.{ℕ}
use Rattle.octseq.specs.Parser.{window}
use Rattle.octseq_dns_message.specs.Stop.{QuestionsStop}
use Rattle.octseq_dns_message.proofs.message.offset.skip_questions.Given as goal

abbrev pub invariant-loop-left : goal.invariant-loop-left
invariant-loop-left l = (records offset : ℕ) → QuestionsStop l.left records (window l.parser) offset
    → QuestionsStop l.count records (window l.fn.parser) offset

abbrev pub decreases-loop-left : goal.decreases-loop-left
decreases-loop-left l = l.left
