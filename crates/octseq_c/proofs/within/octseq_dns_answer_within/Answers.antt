use Rattle.std.proofs.Common.{arith, refl}
use Rattle.octseq_c.proofs.AnswersWithin.{one_within}
use Rattle.octseq_c.proofs.Puts.{puts_copies, puts_none}
use Rattle.octseq_c.proofs.within.octseq_dns_answer_within.Goals as goal

pub returns-in-Ok-clause-puts : goal.returns-in-Ok-clause-puts
returns-in-Ok-clause-puts c = puts_none 6 (omega arith) (one_within _ _ _ _ _)

pub returns-in-Ok-2-clause-puts : goal.returns-in-Ok-2-clause-puts
returns-in-Ok-2-clause-puts c = puts_none 4 (omega arith) (one_within _ _ _ _ _)

pub returns-in-None-clause-puts : goal.returns-in-None-clause-puts
returns-in-None-clause-puts c = puts_none 5 (omega arith) (one_within _ _ _ _ _)

pub returns-in-Some-clause-puts : goal.returns-in-Some-clause-puts
returns-in-Some-clause-puts c =
    let made = c.answer_kept.ensures in
    puts_copies (one_within c.args.query.now c.args.flags c.args.source.now c.args.rows.now c.args.limit) _
    (record {
      asked = _;
      questions = _;
      answers = _;
      authorities = _;
      additionals = _;
      message = c.in-Ok.ensures.message;
      count = c.in-Some.kept;
      keeps = c.in-Some.ensures.keeps;
      contents = made.0;
      is = made.1;
      made_is = refl;
    })
    made.3
