use Rattle.std.proofs.Common.{rules, ◌≡◌, ◌++◌, [], length, take, ap, ◌∙◌, arith, append-nil}
use Rattle.std.proofs.Common.{length-take}
use Rattle.octseq_core.proofs.Shifts.{joined, listed}
use Rattle.octseq_core.proofs.lanes.append_lane.Goals as goal

pub returns-then-len-ge8 : goal.returns-then-len-ge8
returns-then-len-ge8 c =
    let x = c.args.octets.now in
    let a = c.first_octets-a.result in
    let b = c.without_first_of_eight-b.result in
    let few = c.requires.few in
    let some = c.if-len-ge8.true in
    let a_long : length a ≡ 8 = ap length c.first_octets-a.ensures ∙ omega (arith, length-take 8 x) in
    let b_long : length b ≡ 8 = search rules in
    c.append_first.ensures.items
    ∙ ap (λ o. c.args.vec.now.items ++ o) (ap (λ o. take (length x) o) (listed a _ a_long
    ∙ ap (λ o. a ++ o) (listed b [] b_long ∙ append-nil b))
    ∙ joined 8 x a _ b some (omega arith) c.first_octets-a.ensures c.last_octets.ensures
    c.without_first_of_eight-b.ensures)
