use Rattle.std.proofs.Common.{rules, ◌++◌, codes, ap, sym, ◌∙◌, append_assoc}
use Rattle.std.proofs.Output.{has_written_append}
use Rattle.octseq_dns_message.specs.HeaderText.{question_text}
use Rattle.octseq_dns_message.specs.MessageText.{line, questions_text}
use Rattle.octseq_dns_message.specs.Said.{question_of}
use Rattle.octseq_dns_message.specs.Walk.{questions_left}
use Rattle.octseq_dns_message.proofs.message.text.write_questions.Goals as goal

pub loop-question-preserved : goal.loop-question-preserved
loop-question-preserved g c = λ plain.
    let so_far = c.loop-question.invariant plain in
    let text = line (codes "question") (question_text (question_of c.in-Some.question)) in (
      so_far.0 ++ text,
      has_written_append _ _ _ _ _ _ so_far.1 (search rules),
      append_assoc so_far.0 text (questions_text (questions_left c.next.new.self))
          ∙ ap (λ questions. so_far.0 ++ questions_text questions) (sym c.in-Some.ensures.steps) ∙ so_far.2,
    )
