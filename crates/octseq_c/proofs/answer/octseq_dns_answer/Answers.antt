use Rattle.std.proofs.Common.{length, ap, refl, arith}
use Rattle.octseq_dns.specs.Parsed.{additionals_of, answers_of, authorities_of, header_of, questions_of}
use Rattle.octseq_c.proofs.OneAnswer.{answer_of, one_answer}
use Rattle.octseq_c.proofs.Puts.{copied_kept, puts_copies, puts_none}
use Rattle.octseq_c.proofs.answer.octseq_dns_answer.Goals as goal

pub returns-in-Ok-clause-puts : goal.returns-in-Ok-clause-puts
returns-in-Ok-clause-puts c = puts_none 6 (omega arith) (one_answer _ _ _ _)

pub returns-in-Ok-2-clause-puts : goal.returns-in-Ok-2-clause-puts
returns-in-Ok-2-clause-puts c = puts_none 4 (omega arith) (one_answer _ _ _ _)

pub returns-in-Err-answer_to-clause-puts : goal.returns-in-Err-answer_to-clause-puts
returns-in-Err-answer_to-clause-puts c = puts_none 5 (omega arith) (one_answer _ _ _ _)

pub returns-in-Ok-answer_to-clause-puts : goal.returns-in-Ok-answer_to-clause-puts
returns-in-Ok-answer_to-clause-puts c =
    let made = c.in-Ok-answer_to.ensures.made in
    puts_copies (one_answer c.args.query.now c.args.flags c.args.source.now c.args.rows.now) _
    (record {
      asked = _;
      questions = _;
      answers = _;
      authorities = _;
      additionals = _;
      message = c.in-Ok.ensures.message;
      contents = made.0;
      is = made.1;
      made_is = refl;
    })
    made.3

pub returns-in-Ok-answer_to-clause-kept : goal.returns-in-Ok-answer_to-clause-kept
returns-in-Ok-answer_to-clause-kept c = copied_kept c.in-Ok-answer_to.ensures.made.3

pub returns-in-Ok-answer_to-clause-fits : goal.returns-in-Ok-answer_to-clause-fits
returns-in-Ok-answer_to-clause-fits c =
    let made = c.in-Ok-answer_to.ensures.made in
    let short = made.2 in
    let written = made.3.reported in
    omega (arith, short, written)

pub returns-in-Err-answer_to-clause-too_long : goal.returns-in-Err-answer_to-clause-too_long
returns-in-Err-answer_to-clause-too_long c e few made is =
    let message = c.in-Ok.field-0 in
    let m = answer_of (header_of message) c.args.flags (questions_of message) c.args.source.now c.args.rows.now
    c.args.query.now (answers_of message) (authorities_of message) (additionals_of message) made
    c.in-Ok.ensures.message is in
    let past = c.in-Err-answer_to.ensures.short refl m.0 m.1 few in
    let same = ap length m.2 in
    omega (arith, past, same)

pub returns-in-Err-clause-puts : goal.returns-in-Err-clause-puts
returns-in-Err-clause-puts c = puts_none 2 (omega arith) (one_answer _ _ _ _)
