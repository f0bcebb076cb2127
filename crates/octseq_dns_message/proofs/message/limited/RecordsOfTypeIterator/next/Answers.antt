use Rattle.std.proofs.Common.{◌≡◌, ◌==◌, true, sym, ap, ◌∙◌, rules}
use Rattle.octseq_dns_message.specs.Limited.{limited_left}
use Rattle.octseq_dns_message.specs.OfType.{of_type}
use Rattle.octseq_dns_message.specs.Said.{record_of}
use Rattle.octseq_dns_message.specs.Walk.{records_left}
use Rattle.octseq_dns_message.proofs.Limits.{of_type_first}
use Rattle.octseq_format.proofs.RowSteps.{fewer}
use Rattle.octseq_dns_message.proofs.message.limited.RecordsOfTypeIterator.next.Goals as goal

pub returns-then-eq-clause-steps : goal.returns-then-eq-clause-steps
returns-then-eq-clause-steps g c =
    let so_far = c.passed.invariant in
    let entry = record_of c.in-Some.entry in
    let ahead = records_left c.next.new.self in
    let is : (entry.rtype == c.passed.self.rtype) ≡ true = search rules in
    sym so_far.left ∙ ap (λ rtype. of_type rtype (records_left c.passed.records)) so_far.same
    ∙ ap (of_type c.passed.self.rtype) c.in-Some.ensures.steps
    ∙ of_type_first c.passed.self.rtype entry ahead is

pub returns-then-eq-clause-goes : goal.returns-then-eq-clause-goes
returns-then-eq-clause-goes g c =
    let less = fewer (record_of c.in-Some.entry) (limited_left c.args.self.now)
    (of_type c.passed.self.rtype (records_left c.next.new.self)) (returns-then-eq-clause-steps g c) in
    record { on = λ finite. (tt, finite, less); keeps = tt; rests = λ _. tt }

pub returns-clause-steps : goal.returns-clause-steps
returns-clause-steps g c =
    let so_far = c.passed.invariant in
    let none = c.in_default.ensures.steps in (
      sym so_far.left ∙ ap (of_type _) none.0,
      ap (of_type c.passed.self.rtype) none.1,
    )
