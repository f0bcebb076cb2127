use Rattle.std.proofs.Common.{rules, [], ◌≡◌, Some, subst}
use Rattle.octseq_utf8.proofs.Faults.{rest_of}
use Rattle.octseq_text.specs.declared.completion.Completed.TheVariants.{Character, Invalid}
use Rattle.octseq_text.proofs.Completions.{character_read, invalid_read}
use Rattle.octseq_c.specs.Settled.{IsCompleted}
use Rattle.octseq_c.proofs.Wholes.{replacement_is}
use Rattle.octseq_c.proofs.pieces.split.Goals as goal

pub returns-in-Some-Character : goal.returns-in-Some-Character
returns-in-Some-Character c = λ held begun.
    let found = c.in-Some-Character in
    let is : c.args.completed.now ≡ Some (Character found.text found.taken) = search rules in
    let made = (subst (IsCompleted held c.args.piece.now) is begun).1 in
    rw c.as_slice-in-Some-Character.ensures.content
    (character_read _ _ _ _ found.taken made.1 made.2 (rest_of c.args.piece.now found.taken) [])

pub returns-in-Some-Invalid : goal.returns-in-Some-Invalid
returns-in-Some-Invalid c = λ held begun.
    let found = c.in-Some-Invalid in
    let is : c.args.completed.now ≡ Some (Invalid found.taken) = search rules in
    let made = (subst (IsCompleted held c.args.piece.now) is begun).1 in
    rw replacement_is at (invalid_read _ _ _ found.taken made.0 made.2 (rest_of c.args.piece.now found.taken) [])
