use Rattle.std.proofs.Common.{rules, codes, subst}
use Rattle.std.proofs.Output.{has_written_append}
use Rattle.std.proofs.lemmas.Result.{on_ok_weaker}
use Rattle.std.specs.Fmt.{HasWritten}
use Rattle.octseq_dns_message.specs.MessageText.{header_line, questions_text, IsRecordsText}
use Rattle.octseq_dns_message.specs.Parsed.{header_of, questions_of, answers_of, authorities_of, additionals_of}
use Rattle.octseq_dns_message.proofs.MessageTexts.{text_of_parts}
use Rattle.octseq_dns_message.proofs.message.text.MessageDisplay.fmt.Goals as goal

pub returns : goal.returns
returns g c = record {
  shown =
      let took = g.W.Write.write_str_gives in
      let message = c.args.self.now in
      let answered = c.in_ok-write_records.ensures in
      let authorized = c.in_ok-write_records-2.ensures in
      on_ok_weaker c.write_records-3.result
      (λ added. (
        _,
        text_of_parts (header_of message) (questions_of message) (answers_of message) (authorities_of message)
            (additionals_of message) answered.0 authorized.0 added.0
            (subst (λ rs. IsRecordsText (codes "answer") rs answered.0) c.answers.ensures answered.1)
            (subst (λ rs. IsRecordsText (codes "authority") rs authorized.0) c.authorities.ensures authorized.1)
            (subst (λ rs. IsRecordsText (codes "additional") rs added.0) c.additionals.ensures added.1),
        λ plain.
            let head = subst (λ h. HasWritten took c.args.f.now (header_line h) c.write.new.self)
            c.header-header.ensures (c.in_ok-write.ensures.writes plain (search rules)) in
            let asked = subst (λ qs. HasWritten took c.write.new.self (questions_text qs) c.write_questions.new.f)
            c.questions.ensures (c.in_ok-write_questions.ensures head.plain (search rules)) in
            let one = has_written_append _ _ _ _ _ _ head asked in
            let two = has_written_append _ _ _ _ _ _ one (answered.2 one.plain) in
            let three = has_written_append _ _ _ _ _ _ two (authorized.2 two.plain) in
            has_written_append _ _ _ _ _ _ three (added.2 three.plain),
      ))
      c.write_records-3.ensures;
}
