use Rattle.std.proofs.Common.{◌<◌, ◌∷◌, true, false, length, get_or, subst, ◌∙◌, arith}
use Rattle.std.specs.Prelude.{Some}
use Rattle.std.proofs.lemmas.List.{length-set}
use Rattle.octseq_bgp.specs.Handling.{rank, IsRank}
use Rattle.octseq_bgp.specs.Lists.{attribute_of, attributes_left, attributes_session}
use Rattle.octseq_bgp.proofs.FaultsAre.{none_before, some_before, one_more}
use Rattle.octseq_bgp.proofs.Marks.{marked}
use Rattle.octseq_bgp.proofs.message.fault.Faults.take_attribute.Goals as goal

pub invariant_of-self : goal.invariant_of-self
invariant_of-self g c = record { long = length-set c.args.self.now.seen c.from-code.result true ∙ c.args.self.now.long }

pub returns-clause-accepted : goal.returns-clause-accepted
returns-clause-accepted g c = λ zero row left before marks.
    let old = c.args.self.now in
    let e = attribute_of c.in-Some.attribute in
    let n = rank c.attribute_handling-handling.result in
    let code = c.from-code.ensures in
    let bound : c.from-code.result < 256 = omega arith in
    let room : c.from-code.result < length old.seen = let long = old.long in omega (arith, bound, long) in
    one_more (attributes_session old.attributes) (attributes_session c.next.new.self) old.external before
    (attributes_left old.attributes) (attributes_left c.next.new.self) e
    (rank old.missing) old.seen c.from-code.result n
    row row code bound (subst
    (λ s. IsRank s old.external
    (get_or old.seen c.from-code.result false) e n) c.session-session.ensures
    c.attribute_handling-handling.ensures)
    c.in-Some.ensures.steps.0 c.in-Some.ensures.steps.1 marks
    (left (e ∷ before) (marked old.seen before e c.from-code.result code room marks)) (none_before (Some e) n row zero)

pub returns-clause-fault : goal.returns-clause-fault
returns-clause-fault g c = λ not row left before marks.
    let old = c.args.self.now in
    let e = attribute_of c.in-Some.attribute in
    let n = rank c.attribute_handling-handling.result in
    let code = c.from-code.ensures in
    let bound : c.from-code.result < 256 = omega arith in
    let room : c.from-code.result < length old.seen = let long = old.long in omega (arith, bound, long) in
    one_more (attributes_session old.attributes) (attributes_session c.next.new.self) old.external before
    (attributes_left old.attributes) (attributes_left c.next.new.self) e
    (rank old.missing) old.seen c.from-code.result n
    _ row code bound (subst
    (λ s. IsRank s old.external
    (get_or old.seen c.from-code.result false) e n) c.session-session.ensures
    c.attribute_handling-handling.ensures)
    c.in-Some.ensures.steps.0 c.in-Some.ensures.steps.1 marks
    (left (e ∷ before) (marked old.seen before e c.from-code.result code room marks)) (some_before (Some e) n row not)
