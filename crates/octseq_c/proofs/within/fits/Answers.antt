use Rattle.std.proofs.Common.{arith}
use Rattle.octseq_dns.specs.Parsed.{header_of, questions_of}
use Rattle.octseq_c.proofs.AnswersWithin.{past_measured}
use Rattle.octseq_c.proofs.within.fits.Goals as goal

pub returns-in-Ok-clause-past : goal.returns-in-Ok-clause-past
returns-in-Ok-clause-past c = λ no.
    let m = c.args.message.now in
    let made = c.in-Ok.ensures.made in
    let long = c.if-len-most.true in
    let most = c.from-most.ensures in
    past_measured (header_of m) c.args.flags (questions_of m) c.args.source.now c.args.rows.now c.args.limit
    c.args.count c.flags_for-flags.result c.flags_for-flags.ensures made.0 c.answer_to.new.written made.1
    made.3.reported (omega (arith, long, most))
