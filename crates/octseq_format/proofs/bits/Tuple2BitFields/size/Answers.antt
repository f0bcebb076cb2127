use Rattle.std.proofs.Common.{refl}
use Rattle.octseq_format.proofs.BitSteps.{more_above, more_below}
use Rattle.octseq_format.proofs.bits.Tuple2BitFields.size.Goals as goal

pub returns-in_err-size-clause-none : goal.returns-in_err-size-clause-none
returns-in_err-size-clause-none g c = λ _.
    more_above g.A.BitFields.bits g.B.BitFields.bits (c.in_err-size.ensures.none refl)

pub returns-in_err-size-2-clause-none : goal.returns-in_err-size-2-clause-none
returns-in_err-size-2-clause-none g c = λ _.
    more_below g.A.BitFields.bits g.B.BitFields.bits (c.in_err-size-2.ensures.none refl)
