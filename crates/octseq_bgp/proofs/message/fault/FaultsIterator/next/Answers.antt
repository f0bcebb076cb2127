use Rattle.std.proofs.Common.{◌≢◌, [], ◌∷◌, refl, sym, ap, ◌∙◌, subst, arith}
use Rattle.std.specs.Prelude.{None}
use Rattle.octseq_bgp.specs.Fault.{fault_before, AreFaults, Marks}
use Rattle.octseq_bgp.specs.Handling.{rank}
use Rattle.octseq_bgp.specs.Lists.{attributes_session}
use Rattle.octseq_bgp.proofs.FaultsAre.{some_before}
use Rattle.octseq_bgp.proofs.message.fault.FaultsIterator.next.Goals as goal

pub returns-clause-steps : goal.returns-clause-steps
returns-clause-steps g c = (
  λ no. absurd (cc),
  λ row left.
      let now = c.attributes.self in
      let after = c.take_attribute.new.self in
      let none = c.in_default.ensures.none refl in
      let m = rank after.missing in
      let test = c.if-rank-eq0.false in
      let reported = c.rank-2.ensures in
      let not : m ≢ 0 = λ zero. omega (arith, test, reported, zero) in
      let s = attributes_session now.attributes in
      c.attributes.invariant.left (record { attribute = None; rank = m } ∷ row) (λ before marks.
      let marked = subst (λ seen. Marks seen before) (sym none.2) marks in
      let end = subst (λ attributes. AreFaults
      (attributes_session after.attributes) after.external before attributes 0 row)
      none.1 (left before marked) in
      let faults = ap (λ row. record { attribute = None; rank = m } ∷ row) end ∙ some_before None m [] not in
      let missing = ap rank c.in_default.ensures.missing in
      subst (λ attributes. AreFaults s now.external before attributes (rank now.missing)
      (record { attribute = None; rank = m } ∷ row)) (sym none.0)
      (faults ∙ ap (λ n. fault_before None n []) missing)),
)
