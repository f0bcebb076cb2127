use Rattle.std.proofs.Common.{arith, refl}
use Rattle.octseq_c.proofs.AnswersWithin.{fit_more}
use Rattle.octseq_c.proofs.within.first_past.Goals as goal

pub loop-count-preserved : goal.loop-count-preserved
loop-count-preserved c = record {
  fit = fit_more _ _ _ _ _ _ c.loop-count.count c.loop-count.invariant.fit (c.if-not-fits.ensures.fits refl);
}

pub returns-clause-fit : goal.returns-clause-fit
returns-clause-fit c other less =
    let all = c.loop-count-test.false in
    c.loop-count.invariant.fit other (omega (arith, all, less))
