use Rattle.std.proofs.Common.{◌≡◌, ◌≤◌, ◌+◌, ◌-◌, ◌*◌, ap, arith, drop, rules}
use Rattle.octseq_format.specs.Leb128.{leb128}
use Rattle.octseq_format.proofs.Lebs.{leb128_at, leb128_most}
use Rattle.octseq_format.proofs.leb128.groups_value.Goals as goal

pub returns-in_err-checked_mul-clause-none : goal.returns-in_err-checked_mul-clause-none
returns-in_err-checked_mul-clause-none c = λ _.
    let xs = c.args.octets.now in
    let offset = c.loop-offset.offset in
    let some = c.loop-offset-test.true in
    let number = c.loop-offset.invariant.0 in
    let within = c.loop-offset.invariant.1 in
    let next : offset - 1 + 1 ≡ offset = omega (arith, some) in
    let here = leb128_at xs (offset - 1) (omega (arith, some, within)) in
    let more = ap (λ i. leb128 (drop i xs)) next in
    let most = leb128_most xs (offset - 1) in
    let large : 18446744073709551616 ≤ c.loop-offset.number * 128 = search rules in
    omega (arith, number, here, more, most, large)
