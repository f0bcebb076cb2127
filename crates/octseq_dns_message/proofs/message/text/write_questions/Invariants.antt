-- What is written, followed by the text of the questions ahead, is the text of the questions.
use Rattle.std.proofs.Common.{◌≡◌, ◌++◌, ℕ, List}
use Rattle.std.specs.Fmt.{HasWritten, IsPlainFormatter}
use Rattle.octseq_dns_message.specs.MessageText.{questions_text}
use Rattle.octseq_dns_message.specs.Walk.{questions_left}
use Rattle.octseq_dns_message.proofs.message.text.write_questions.Given as goal

abbrev pub invariant-loop-question : goal.invariant-loop-question
invariant-loop-question g l =
    IsPlainFormatter l.initial.f → (done : List ℕ) × HasWritten g.W.Write.write_str_gives l.initial.f done l.f
    × (done ++ questions_text (questions_left l.question-iterator) ≡ questions_text (questions_left l.fn.questions))
