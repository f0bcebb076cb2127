use Rattle.std.proofs.Common.{◌++◌, length, drop, map, ◌+◌, sym, ap, ◌∙◌}
use Rattle.std.proofs.lemmas.List.{length-map}
use Rattle.octseq_dns_message.specs.Walk.{questions_left, records_left}
use Rattle.octseq_c.specs.Rows.{row_of_question, row_of_record, rows_of}
use Rattle.octseq_c.proofs.Placed.{four_placed}
use Rattle.octseq_c.proofs.rows.fill_rows.Goals as goal

pub returns : goal.returns
returns c =
    let q = questions_left c.questions.result in
    let a = records_left c.answers.result in
    let b = records_left c.authorities.result in
    let d = records_left c.additionals.result in
    let n = c.fill_questions-at.result in
    four_placed c.args.out.now c.fill_questions-at.new.out c.fill_records-at.new.out c.fill_records-at-2.new.out
    c.fill_records.new.out (map row_of_question q) (map (row_of_record 1) a) (map (row_of_record 2) b)
    (map (row_of_record 3) d) n c.fill_records-at.result c.fill_records-at-2.result c.fill_records.result
    (c.fill_questions-at.ensures.end ∙ sym (length-map q row_of_question))
    (c.fill_records-at.ensures.end ∙ ap (λ k. n + k) (sym (length-map a (row_of_record 1))))
    (c.fill_records-at-2.ensures.end ∙ ap (λ k. c.fill_records-at.result + k) (sym (length-map b (row_of_record 2))))
    (c.fill_records.ensures.end ∙ ap (λ k. c.fill_records-at-2.result + k) (sym (length-map d (row_of_record 3))))
    c.fill_questions-at.ensures.out c.fill_records-at.ensures.out c.fill_records-at-2.ensures.out
    c.fill_records.ensures.out
    ∙ (λ i. let rows = rows_of (c.questions.ensures i) (c.answers.ensures i) (c.authorities.ensures i)
    (c.additionals.ensures i) in rows ++ drop (length rows) c.args.out.now)
