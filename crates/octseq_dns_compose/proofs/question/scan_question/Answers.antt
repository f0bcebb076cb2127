use Rattle.std.proofs.Common.{◌≡◌, [], ◌∷◌, refl, rules}
use Rattle.octseq_dns_scan.specs.Words.{ahead_of}
use Rattle.octseq_dns_compose.specs.QuestionText.{IsAnyQuestion}
use Rattle.octseq_dns_compose.proofs.Faults.{kept_fault, reached_fault}
use Rattle.octseq_dns_compose.proofs.Questions.{AfterClass, AfterName, class_fault, more_fault, past_class, past_name}
use Rattle.octseq_dns_compose.proofs.Questions.{past_rtype, question_fault, rtype_fault}
use Rattle.octseq_dns_compose.proofs.question.scan_question.Goals as goal

pub returns-in_default-clause-none : goal.returns-in_default-clause-none
returns-in_default-clause-none c = λ _.
    kept_fault IsAnyQuestion _ _ _ _ (search rules) c.in_default.ensures.end
    (question_fault _ _ (c.in_default.ensures.none (search rules)))

pub returns-in_default-take_class-clause-none : goal.returns-in_default-take_class-clause-none
returns-in_default-take_class-clause-none c = λ _.
    let named = past_name _ c.in-Some.ensures.some c.in-Some.ensures.end in
    reached_fault named
    (kept_fault AfterName _ _ _ _ (search rules) c.in_default-take_class.ensures.end
    (class_fault _ _ (c.in_default-take_class.ensures.taken.none (search rules))))

pub returns-in_default-take_rtype-clause-none : goal.returns-in_default-take_rtype-clause-none
returns-in_default-take_rtype-clause-none c = λ _.
    let named = past_name _ c.in-Some.ensures.some c.in-Some.ensures.end in
    let classed = past_class _ named c.in-Some-take_class.ensures.taken.some c.in-Some-take_class.ensures.end in
    reached_fault classed
    (kept_fault AfterClass _ _ _ _ (search rules) c.in_default-take_rtype.ensures.end
    (rtype_fault _ _ (c.in_default-take_rtype.ensures.taken.none (search rules))))

pub returns-then-not-is_at_end-clause-none : goal.returns-then-not-is_at_end-clause-none
returns-then-not-is_at_end-clause-none c = λ _.
    let named = past_name _ c.in-Some.ensures.some c.in-Some.ensures.end in
    let classed = past_class _ named c.in-Some-take_class.ensures.taken.some c.in-Some-take_class.ensures.end in
    let typed = past_rtype _ classed c.in-Some-take_rtype.ensures.taken.some c.in-Some-take_rtype.ensures.end in
    let some : ¬ (ahead_of c.take_rtype.new.words ≡ []) = search rules in
    reached_fault typed (more_fault _ _ some)

pub returns-clause-some : goal.returns-clause-some
returns-clause-some c =
    let name = c.in-Some.ensures.some in
    let class = c.in-Some-take_class.ensures.taken.some in
    let kind = c.in-Some-take_rtype.ensures.taken.some in
    let over : ahead_of c.take_rtype.new.words ≡ [] = search rules in (
      name.0 ∷ class.0 ∷ kind.0 ∷ [],
      (_, name.1, (_, class.1, (_, kind.1, over))),
      (name.2, (class.2, (kind.2, refl))),
    )
