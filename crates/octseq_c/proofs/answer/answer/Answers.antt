use Rattle.std.proofs.Common.{map, ap, ◌∙◌, refl}
use Rattle.octseq_dns.specs.Contents.{Message}
use Rattle.octseq_dns.specs.Parsed.{questions_of}
use Rattle.octseq_dns.specs.ReadBack.{bare}
use Rattle.octseq_dns.proofs.Stages.{of_sections}
use Rattle.octseq_c.specs.Made.{HasRecordsOf}
use Rattle.octseq_c.proofs.answer.answer.Goals as goal

pub returns-clause-made : goal.returns-clause-made
returns-clause-made g c =
    let header = c.in_ok-begun.ensures.header in
    let pushed = c.in_ok-whole.ensures.records in
    let m : Message = of_sections header.0 (map bare (questions_of c.args.message.now)) pushed.0.answers
    pushed.0.authorities pushed.0.additionals in
    let has : HasRecordsOf c.args.source.now c.args.rows.now m = record {
      answers_are = pushed.1.answers_are;
      authorities_are = pushed.1.authorities_are;
      additionals_are = pushed.1.additionals_are;
    } in
    let written = c.in_ok-whole.ensures.written m has (c.in_ok-begun.ensures.written m header.1 refl) in (
      m,
      record { header_is = header.1; questions_are = refl; records_are = has },
      c.finish.ensures.content ∙ ap (λ s. s.octets) written.state_is,
    )
