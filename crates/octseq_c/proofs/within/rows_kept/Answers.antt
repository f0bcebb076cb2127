use Rattle.std.proofs.Common.{arith}
use Rattle.octseq_dns.specs.Parsed.{header_of, questions_of}
use Rattle.octseq_c.proofs.AnswersWithin.{kept_before}
use Rattle.octseq_c.proofs.within.rows_kept.Goals as goal

pub returns-clause-keeps : goal.returns-clause-keeps
returns-clause-keeps c =
    let m = c.args.message.now in
    let found = c.first_past-first.ensures in
    let some = c.if-first-eq0.false in
    kept_before (header_of m) c.args.flags (questions_of m) c.args.source.now c.args.rows.now c.args.limit
    c.first_past-first.result found.most found.past (c.if-fits.ensures.past (λ e. absurd (cc))) (omega (arith, some))
    found.fit
