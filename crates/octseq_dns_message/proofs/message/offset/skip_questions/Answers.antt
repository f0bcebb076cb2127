use Rattle.std.proofs.Common.{◌≡◌, ◌-◌, suc, refl, sym, ap, subst, arith}
use Rattle.octseq.specs.Parser.{window}
use Rattle.octseq_dns_message.specs.Stop.{QuestionsStop}
use Rattle.octseq_dns_message.proofs.Stops.{question_step, question_stop}
use Rattle.octseq_dns_message.proofs.message.offset.skip_questions.Goals as goal

pub returns-in-Err-clause-stopped : goal.returns-in-Err-clause-stopped
returns-in-Err-clause-stopped c = λ _ records.
    let w = window c.loop-left.parser in
    let left = c.loop-left.left in
    let more = c.loop-left-test.true in
    let one : left ≡ suc (left - 1) = omega arith in
    let stop : QuestionsStop left records w w.position =
    question_stop left (left - 1) records w one (c.in-Err.ensures.malformed refl) in
    subst (QuestionsStop c.args.count records (window c.args.parser.now))
    (sym (ap (λ w. w.position) c.in-Err.ensures.kept)) (c.loop-left.invariant records w.position stop)

pub loop-left-preserved : goal.loop-left-preserved
loop-left-preserved c = λ records offset stop.
    let left = c.loop-left.left in
    let more = c.loop-left-test.true in
    let one : left ≡ suc (left - 1) = omega arith in
    c.loop-left.invariant records offset
    (question_step left (left - 1) records offset (window c.loop-left.parser) (window c.parse.new.parser) _ one
    c.in-Ok.ensures.question stop)
