-- The rows so far, and those of the questions that are left, are all rows. What follows them is unchanged.
use Rattle.std.proofs.Common.{◌≡◌, ◌+◌, ◌++◌, map, take, drop, length}
use Rattle.octseq_dns_message.specs.Walk.{questions_left}
use Rattle.octseq_c.specs.Rows.{row_of_question}
use Rattle.octseq_c.proofs.rows.fill_questions.Given as goal

abbrev pub invariant-loop-question : goal.invariant-loop-question
invariant-loop-question l = record {
  end : l.at + length (questions_left l.question-iterator) ≡ length (questions_left l.fn.questions);
  whole : take l.at l.out ++ map row_of_question (questions_left l.question-iterator)
      ≡ map row_of_question (questions_left l.fn.questions);
  rest : drop l.at l.out ≡ drop l.at l.fn.out;
  long : length l.out ≡ length l.fn.out;
}
