use Rattle.std.proofs.Common.{refl, arith}
use Rattle.octseq_mrt.proofs.record.next_record.Goals as goal

pub returns-in-Err-clause-cut : goal.returns-in-Err-clause-cut
returns-in-Err-clause-cut g c =
    let here = c.remaining.ensures.left in
    let some = c.if-remaining-eq0.false in
    (omega (arith, here, some), c.in-Err.ensures.malformed refl)
