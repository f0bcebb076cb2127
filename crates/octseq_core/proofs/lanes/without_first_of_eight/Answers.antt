use Rattle.std.proofs.Common.{rules, ◌-◌, ◌≤◌, ◌∙◌, ap, arith, take, drop}
use Rattle.std.specs.Int.{bytes_low_first}
use Rattle.std.proofs.lemmas.Nat.{le_bytes_8}
use Rattle.octseq_core.proofs.Shifts.{begins_after, none_after}
use Rattle.octseq_core.proofs.lanes.without_first_of_eight.Goals as goal
use Rattle.octseq_core.proofs.lanes.without_first_of_eight.Goals.{in-Some, in-None}

pub returns : goal.returns
returns c =
    let n = c.from_le_bytes.result in
    let m = c.args.count in
    let few : m ≤ 8 = c.requires in
    let same = le_bytes_8 c.args.octets _ (search rules) (search rules) c.from_le_bytes.ensures in
    elim c.match-checked_shr.branch [
      | in-Some w ↦ ap (λ r. take (8 - m) r)
          (c.to_le_bytes.ensures ∙ ap (λ x. bytes_low_first 0 8 x) (w.rest-is ∙ w.in-Some.ensures.1))
          ∙ begins_after 8 m n few ∙ ap (λ o. drop m o) same
      | in-None w ↦ let far = w.in-None.ensures in
          none_after 8 m _ c.args.octets (grind arith) (search rules)
    ]
