use Rattle.std.proofs.Common.{◌∙◌, ap, length, refl, sym, subst, arith, rules}
use Rattle.octseq.specs.Limit.{IsWithin}
use Rattle.octseq_dns_compress.specs.Composed.{message_limit}
use Rattle.octseq_dns_message.specs.Walk.{questions_left}
use Rattle.octseq_dns.proofs.Onward.{onward_first, onward_next, onward_none, onward_past, onward_fewer, onward_turns}
use Rattle.octseq_dns.proofs.OnlyRecord.{same_question, single_question}
use Rattle.octseq_dns.proofs.builder.anew.append_questions.Goals as goal

pub loop-question-init : goal.loop-question-init
loop-question-init g c = record {
  on = onward_first (ap (λ walk. questions_left walk) c.into_iter-question-iterator.ensures.into_iter_gives
      ∙ c.questions-question-items.ensures);
  within = λ within. within;
  counted = omega arith;
  borrows = refl;
}

pub loop-question-preserved : goal.loop-question-preserved
loop-question-preserved g c =
    let so_far = c.loop-question.invariant in
    let went = c.in_ok-compose_question.ensures in
    record {
      on = onward_next so_far.on single_question c.in-Some.ensures.steps
          (same_question c.qname.ensures c.qtype-qtype.ensures c.qclass-qclass.ensures) went.composed.ok went.fits
          went.turns went.least;
      within = λ _. subst (λ s. IsWithin (message_limit g.B.AsOctets.limit) (length s.octets)) (sym went.composed.ok)
          went.composed.within;
      counted = let before = so_far.counted in let more = went.on in omega (arith, before, more);
      borrows = went.borrows ∙ so_far.borrows;
    }

pub returns-in_err-compose_question-clause-short : goal.returns-in_err-compose_question-clause-short
returns-in_err-compose_question-clause-short g c short =
    onward_past c.loop-question.invariant.on single_question c.in-Some.ensures.steps
    (same_question c.qname.ensures c.qtype-qtype.ensures c.qclass-qclass.ensures)
    (message_limit g.B.AsOctets.limit) (c.in_err-compose_question.ensures.composed.short (search (rules, short)))

pub returns-in_err-compose_question-clause-turns : goal.returns-in_err-compose_question-clause-turns
returns-in_err-compose_question-clause-turns g c =
    onward_turns c.loop-question.invariant.on single_question c.in-Some.ensures.steps
    (same_question c.qname.ensures c.qtype-qtype.ensures c.qclass-qclass.ensures)
    c.in_err-compose_question.ensures.turns

pub returns-clause-appended : goal.returns-clause-appended
returns-clause-appended g c = onward_none c.loop-question.invariant.on c.in-None.ensures.steps.0

pub returns-clause-turns : goal.returns-clause-turns
returns-clause-turns g c = onward_fewer c.loop-question.invariant.on
