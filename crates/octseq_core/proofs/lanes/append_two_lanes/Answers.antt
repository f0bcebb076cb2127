use Rattle.std.proofs.Common.{◌-◌, ◌++◌, length, take, drop, ap, ◌∙◌, arith, append_assoc, take_all}
use Rattle.std.proofs.Common.{length-drop}
use Rattle.std.proofs.lemmas.List.{take-take, take-append-drop}
use Rattle.octseq_core.proofs.lanes.append_two_lanes.Goals as goal

pub returns : goal.returns
returns c =
    let x = c.args.octets.now in
    let old = c.args.vec.now.items in
    let some = c.requires.some in
    let few = c.requires.few in
    let n = length x - 16 in
    let first = ap (λ o. take n o) c.first_octets.ensures ∙ take-take n 16 x (omega arith) in
    let last = ap (λ o. take 16 o) c.last_octets.ensures ∙ take_all 16 (drop n x) (omega (arith, length-drop n x)) in
    c.append_first-2.ensures.items ∙ ap (λ o. o ++ take 16 c.last_octets.result) c.append_first.ensures.items
    ∙ append_assoc old (take n c.first_octets.result) (take 16 c.last_octets.result)
    ∙ ap (λ o. old ++ o) (ap (λ o. o ++ take 16 c.last_octets.result) first ∙ ap (λ o. take n x ++ o) last
    ∙ take-append-drop n x)
