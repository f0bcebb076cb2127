use Rattle.std.proofs.Common.{◌+◌, ◌≤◌, ◌++◌, length, take, arith, ap, refl, ◌∙◌}
use Rattle.std.proofs.Common.{length-append, length-take}
use Rattle.std.proofs.lemmas.Result.{IfOk-weaker, IfErr-weaker}
use Rattle.octseq_utf8.specs.Fault.{fault_after, saturated}
use Rattle.octseq_utf8.proofs.Faults.{rest_of}
use Rattle.octseq_text.specs.FaultSearch.{PassesAfter, SettlesAfter}
use Rattle.octseq_text.proofs.Completions.{character_all, character_well_formed, invalid_fault, open_few}
use Rattle.octseq_text.proofs.FaultSearching.{passes_after, passes_none, settles_after}
use Rattle.octseq_text.proofs.utf8.pieces.read.Goals as goal

-- still incomplete

pub returns-in-Incomplete-clause-passed : goal.returns-in-Incomplete-clause-passed
returns-in-Incomplete-clause-passed c =
    let unfinished = c.in-Incomplete.ensures.completed in
    passes_none c.args.passed c.ranges.passed.fits _ _
    (unfinished.0 ∙ ap (λ y. y ++ c.args.piece.now) c.as_slice-2.ensures.content) unfinished.1

pub returns-in-Incomplete-clause-turns_passed : goal.returns-in-Incomplete-clause-turns_passed
returns-in-Incomplete-clause-turns_passed c =
    let unfinished = c.in-Incomplete.ensures.completed in
    let few = open_few c.as_slice-2.result.now c.args.piece.now c.in-Incomplete.end.content unfinished.0 unfinished.1 in
    let turn = c.in-Incomplete.ensures.turns in
    omega (arith, few, turn)

-- a character

pub returns-in-Character-clause-passed : goal.returns-in-Character-clause-passed
returns-in-Character-clause-passed c =
    let made = c.in-Character.ensures.completed in
    let is = made.1 ∙ ap (λ y. y ++ take c.in-Character.taken c.args.piece.now) c.as_slice-2.ensures.content in
    let left = rest_of c.args.piece.now c.in-Character.taken in
    let n = c.args.passed in
    let m = c.saturating_add-passed.ensures
    ∙ ap (λ y. saturated (n + length y)) c.as_slice-in-Character.ensures.content in
    IfOk-weaker c.search-in-Character.result _ _
    (λ reached p. character_all _ _ _ _ c.in-Character.taken is made.2 left
    (λ y. PassesAfter n y reached.passed reached.end.content)
    (passes_after n _ c.in-Character.encoding.content
    (character_well_formed _ _ _ _ c.in-Character.taken is made.2 left) m p))
    c.search-in-Character.ensures.passed

pub returns-in-Character-clause-fault : goal.returns-in-Character-clause-fault
returns-in-Character-clause-fault c =
    let made = c.in-Character.ensures.completed in
    let is = made.1 ∙ ap (λ y. y ++ take c.in-Character.taken c.args.piece.now) c.as_slice-2.ensures.content in
    let left = rest_of c.args.piece.now c.in-Character.taken in
    let n = c.args.passed in
    let m = c.saturating_add-passed.ensures
    ∙ ap (λ y. saturated (n + length y)) c.as_slice-in-Character.ensures.content in
    IfErr-weaker c.search-in-Character.result _ _
    (λ reported s. character_all _ _ _ _ c.in-Character.taken is made.2 left (λ y. SettlesAfter n y reported)
    (settles_after n _ c.in-Character.encoding.content
    (character_well_formed _ _ _ _ c.in-Character.taken is made.2 left) m _ reported s))
    c.search-in-Character.ensures.fault

-- a bad part

pub returns-in-Invalid-clause-fault : goal.returns-in-Invalid-clause-fault
returns-in-Invalid-clause-fault c =
    let made = rw c.as_slice-2.ensures.content at c.in-Invalid.ensures.completed in
    let begun = c.args.end.now.content in
    let long : c.in-Invalid.taken ≤ length c.args.piece.now = let inside = made.0 in omega arith in
    invalid_fault _ _ _ c.in-Invalid.taken made.0 made.2 refl c.args.passed _ _
    (omega (
      arith,
      ap length c.as_slice-in-Invalid.ensures.content,
      length-append begun (take c.in-Invalid.taken c.args.piece.now),
      length-take c.in-Invalid.taken c.args.piece.now,
    ))
    (c.offset.ensures ∙ ap (fault_after c.args.passed) c.fault_at_front.ensures)
