use Rattle.std.proofs.Common.{◌-◌, ◌++◌, arith, ap, refl, sym, subst, ◌∙◌}
use Rattle.std.proofs.lemmas.Result.{err_from_is_err_and, IfOk-weaker}
use Rattle.octseq_utf8.specs.Encoding.{encoding_of}
use Rattle.octseq_utf8.proofs.Faults.{rest_of}
use Rattle.octseq_text.specs.Progress.{HasReadParts}
use Rattle.octseq_text.proofs.Completions.{character_parts, character_read, invalid_parts, invalid_read, open_few}
use Rattle.octseq_text.proofs.Completions.{open_parts}
use Rattle.octseq_text.proofs.Piecewise.{read_none, read_then, too_long, too_long_then}
use Rattle.octseq_text.proofs.str.pieces.read.Goals as goal

-- still incomplete

pub returns-in-Incomplete-clause-turns : goal.returns-in-Incomplete-clause-turns
returns-in-Incomplete-clause-turns g c =
    let unfinished = rw c.as_slice-2.ensures.content at c.in-Incomplete.ensures.completed in
    omega (
      arith,
      open_parts c.args.end.now.content c.args.piece.now c.in-Incomplete.end.content
          unfinished.0 unfinished.1,
      c.in-Incomplete.ensures.turns,
    )

pub returns-in-Incomplete-clause-passed : goal.returns-in-Incomplete-clause-passed
returns-in-Incomplete-clause-passed g c =
    let unfinished = rw c.as_slice-2.ensures.content at c.in-Incomplete.ensures.completed in
    omega (
      arith,
      open_few c.args.end.now.content c.args.piece.now c.in-Incomplete.end.content
          unfinished.0 unfinished.1,
      c.in-Incomplete.ensures.turns,
    )

-- a character

pub returns-in_err-append_slice-in-Character-clause-short : goal.returns-in_err-append_slice-in-Character-clause-short
returns-in_err-append_slice-in-Character-clause-short g c =
    let a = g.B.AsOctets.content c.args.text.now in
    let made = rw c.as_slice-2.ensures.content at c.in-Character.ensures.completed in
    let p = err_from_is_err_and c.from_residual.result c.from_residual.ensures.1 in
    rw (p.1, p.2)
    (λ h. too_long g.B.AsOctets.limit c.in-Character.encoding.content c.as_slice-in-Character.result.now
    c.as_slice-in-Character.ensures.content (read_none _ a)
    (character_read _ _ _ _ c.in-Character.taken made.1 made.2 refl a)
    (c.in_err-append_slice-in-Character.ensures.appended.short.0 h))

pub returns-in_err-append_slice-in-Character-clause-turns : goal.returns-in_err-append_slice-in-Character-clause-turns
returns-in_err-append_slice-in-Character-clause-turns g c =
    let made = rw c.as_slice-2.ensures.content at c.in-Character.ensures.completed in
    let parts = character_parts _ _ _ _ c.in-Character.taken made.1 made.2 refl in
    omega (arith, parts, c.in-Character.ensures.turns)

pub returns-in_ok-append_slice-in-Character-clause-read : goal.returns-in_ok-append_slice-in-Character-clause-read
returns-in_ok-append_slice-in-Character-clause-read g c =
    let a = g.B.AsOctets.content c.args.text.now in
    let made = rw c.as_slice-2.ensures.content at c.in-Character.ensures.completed in
    let grown = c.in_ok-append_slice-in-Character.ensures.appended.ok
    ∙ ap (λ y. a ++ y) c.as_slice-in-Character.ensures.content in
    let first = character_read _ _ _ _ c.in-Character.taken made.1 made.2
    (rest_of c.args.piece.now c.in-Character.taken) a in
    let first = subst (HasReadParts _ _ a) (sym grown) first in
    IfOk-weaker c.settle-in-Character.result _ _ (λ left read. read_then first read) c.settle-in-Character.ensures.read

pub returns-in_ok-append_slice-in-Character-clause-short : goal.returns-in_ok-append_slice-in-Character-clause-short
returns-in_ok-append_slice-in-Character-clause-short g c =
    let a = g.B.AsOctets.content c.args.text.now in
    let made = rw c.as_slice-2.ensures.content at c.in-Character.ensures.completed in
    let grown = c.in_ok-append_slice-in-Character.ensures.appended.ok
    ∙ ap (λ y. a ++ y) c.as_slice-in-Character.ensures.content in
    let first = character_read _ _ _ _ c.in-Character.taken made.1 made.2
    (rest_of c.args.piece.now c.in-Character.taken) a in
    let first = subst (HasReadParts _ _ a) (sym grown) first in
    λ h. too_long_then first (c.settle-in-Character.ensures.short h)

pub returns-in_ok-append_slice-in-Character-clause-turns : goal.returns-in_ok-append_slice-in-Character-clause-turns
returns-in_ok-append_slice-in-Character-clause-turns g c =
    let made = rw c.as_slice-2.ensures.content at c.in-Character.ensures.completed in
    let parts = character_parts _ _ _ _ c.in-Character.taken made.1 made.2
    (rest_of c.args.piece.now c.in-Character.taken) in
    omega (arith, parts, c.in-Character.ensures.turns, c.settle-in-Character.ensures.turns)

-- a bad part

pub returns-in_err-append_replacement-in-Invalid-clause-short :
    goal.returns-in_err-append_replacement-in-Invalid-clause-short
returns-in_err-append_replacement-in-Invalid-clause-short g c =
    let a = g.B.AsOctets.content c.args.text.now in
    let made = rw c.as_slice-2.ensures.content at c.in-Invalid.ensures.completed in
    let p = err_from_is_err_and c.from_residual-in_err-append_replacement-in-Invalid.result
    c.from_residual-in_err-append_replacement-in-Invalid.ensures.1 in
    rw (p.1, p.2)
    (λ h. too_long g.B.AsOctets.limit (encoding_of 0xFFFD) (encoding_of 0xFFFD) refl (read_none _ a)
    (invalid_read _ _ _ c.in-Invalid.taken made.0 made.2 refl a)
    (c.in_err-append_replacement-in-Invalid.ensures.short.0 h))

pub returns-in_err-append_replacement-in-Invalid-clause-turns :
    goal.returns-in_err-append_replacement-in-Invalid-clause-turns
returns-in_err-append_replacement-in-Invalid-clause-turns g c =
    let made = rw c.as_slice-2.ensures.content at c.in-Invalid.ensures.completed in
    let parts = invalid_parts _ _ _ c.in-Invalid.taken made.0 made.2 refl in
    omega (arith, parts, c.in-Invalid.ensures.turns)

pub returns-in_ok-append_replacement-in-Invalid-clause-read :
    goal.returns-in_ok-append_replacement-in-Invalid-clause-read
returns-in_ok-append_replacement-in-Invalid-clause-read g c =
    let a = g.B.AsOctets.content c.args.text.now in
    let made = rw c.as_slice-2.ensures.content at c.in-Invalid.ensures.completed in
    let first = invalid_read _ _ _ c.in-Invalid.taken made.0 made.2 (rest_of c.args.piece.now c.in-Invalid.taken) a in
    let first = subst (HasReadParts _ _ a) (sym c.in_ok-append_replacement-in-Invalid.ensures.ok) first in
    IfOk-weaker c.settle-in-Invalid.result _ _ (λ left read. read_then first read) c.settle-in-Invalid.ensures.read

pub returns-in_ok-append_replacement-in-Invalid-clause-short :
    goal.returns-in_ok-append_replacement-in-Invalid-clause-short
returns-in_ok-append_replacement-in-Invalid-clause-short g c =
    let a = g.B.AsOctets.content c.args.text.now in
    let made = rw c.as_slice-2.ensures.content at c.in-Invalid.ensures.completed in
    let first = invalid_read _ _ _ c.in-Invalid.taken made.0 made.2 (rest_of c.args.piece.now c.in-Invalid.taken) a in
    let first = subst (HasReadParts _ _ a) (sym c.in_ok-append_replacement-in-Invalid.ensures.ok) first in
    λ h. too_long_then first (c.settle-in-Invalid.ensures.short h)

pub returns-in_ok-append_replacement-in-Invalid-clause-turns :
    goal.returns-in_ok-append_replacement-in-Invalid-clause-turns
returns-in_ok-append_replacement-in-Invalid-clause-turns g c =
    let made = rw c.as_slice-2.ensures.content at c.in-Invalid.ensures.completed in
    let parts = invalid_parts _ _ _ c.in-Invalid.taken made.0 made.2 (rest_of c.args.piece.now c.in-Invalid.taken) in
    omega (arith, parts, c.in-Invalid.ensures.turns, c.settle-in-Invalid.ensures.turns)
