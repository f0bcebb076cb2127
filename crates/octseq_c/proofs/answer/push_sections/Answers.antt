use Rattle.std.proofs.Common.{[], ap, refl, arith}
use Rattle.std.proofs.lemmas.Result.{IfOk-weaker}
use Rattle.octseq_dns.proofs.Stages.{asked, of_sections, stage_next}
use Rattle.octseq_c.specs.Made.{offsets_kept}
use Rattle.octseq_c.proofs.AnswerBegun.{on_ok, additionals_are, answered, answers_are, authorities_are, authorized}
use Rattle.octseq_c.proofs.AnswerBegun.{answered_short, authorized_short}
use Rattle.octseq_c.proofs.answer.push_sections.Goals as goal

pub returns-in_err-answered-clause-short : goal.returns-in_err-answered-clause-short
returns-in_err-answered-clause-short g c err m has w1 few =
    let none = ap (λ k. k.ancount) w1.counts_are in
    let past = rw answers_are at
    (c.in_err-answered.ensures.short refl (asked m) m.answers w1 has.answers_are (omega (arith, none, few))) in
    omega (arith, past, answered_short m offsets_kept)

pub returns-in_err-authorized-clause-short : goal.returns-in_err-authorized-clause-short
returns-in_err-authorized-clause-short g c err m has w1 few =
    let w2 = stage_next offsets_kept c.in_ok-answered.answered c.authority.result _ (answered m)
    (c.in_ok-answered.ensures.written (asked m) m.answers w1 has.answers_are) (answers_are m) c.authority.ensures in
    let none = ap (λ k. k.nscount) w2.counts_are in
    let past = rw authorities_are at
    (c.in_err-authorized.ensures.short refl (answered m) m.authorities w2 has.authorities_are
    (omega (arith, none, few))) in
    omega (arith, past, authorized_short m offsets_kept)

pub returns-clause-records : goal.returns-clause-records
returns-clause-records g c =
    let first = c.in_ok-answered.ensures.records in
    let second = c.in_ok-authorized.ensures.records in
    on_ok c.push_rows-3.result (λ third. (
      of_sections c.args.answers.header [] first.0 second.0 third.0,
      record { answers_are = first.1; authorities_are = second.1; additionals_are = third.1 },
    )) c.push_rows-3.ensures.records

pub returns-clause-written : goal.returns-clause-written
returns-clause-written g c =
    IfOk-weaker c.push_rows-3.result _ _ (λ b pushed m has w1.
    let w2 = stage_next offsets_kept c.in_ok-answered.answered c.authority.result _ (answered m)
    (c.in_ok-answered.ensures.written (asked m) m.answers w1 has.answers_are) (answers_are m) c.authority.ensures in
    let w3 = stage_next offsets_kept c.in_ok-authorized.authorized c.additional.result _ (authorized m)
    (c.in_ok-authorized.ensures.written (answered m) m.authorities w2 has.authorities_are) (authorities_are m)
    c.additional.ensures in
    rw additionals_are at (pushed (authorized m) m.additionals w3 has.additionals_are))
    c.push_rows-3.ensures.written

pub returns-clause-short : goal.returns-clause-short
returns-clause-short g c err m has w1 few =
    let w2 = stage_next offsets_kept c.in_ok-answered.answered c.authority.result _ (answered m)
    (c.in_ok-answered.ensures.written (asked m) m.answers w1 has.answers_are) (answers_are m) c.authority.ensures in
    let w3 = stage_next offsets_kept c.in_ok-authorized.authorized c.additional.result _ (authorized m)
    (c.in_ok-authorized.ensures.written (answered m) m.authorities w2 has.authorities_are) (authorities_are m)
    c.additional.ensures in
    let none = ap (λ k. k.arcount) w3.counts_are in
    rw additionals_are at
    (c.push_rows-3.ensures.short err (authorized m) m.additionals w3 has.additionals_are (omega (arith, none, few)))
