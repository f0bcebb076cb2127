use Rattle.std.proofs.Common.{refl, inl, inr, arith, rules}
use Rattle.octseq_format.proofs.Lebs.{too_large}
use Rattle.octseq_format.proofs.leb128.leading.Goals as goal

pub returns-in_err-number-clause-none : goal.returns-in_err-number-clause-none
returns-in_err-number-clause-none g c = λ _.
    let chain = c.in_ok-len.ensures.some in
    let large = c.in_err-number.ensures.none refl in
    too_large g.row.MAX g.row.BITS c.args.octets.now c.in_ok-len.len chain.0 chain.2 (inl large)

pub returns-in_err-fitting-clause-none : goal.returns-in_err-fitting-clause-none
returns-in_err-fitting-clause-none g c = λ _.
    let chain = c.in_ok-len.ensures.some in
    let value = c.in_ok-number.ensures.some in
    let large = c.in_err-fitting.ensures.none refl in
    too_large g.row.MAX g.row.BITS c.args.octets.now c.in_ok-len.len chain.0 chain.2 (inr (omega (arith, value, large)))
