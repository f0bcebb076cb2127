use Rattle.std.proofs.Common.{arith, ap, refl, sym, ◌∙◌, ◌++◌, drop}
use Rattle.octseq_utf8.specs.Parts.{text}
use Rattle.octseq_c.proofs.Reported.{both_text, both_past, both_fit, both_settle, end_few, fills_both, one_settled_text}
use Rattle.octseq_c.proofs.Reported.{state_left}
use Rattle.octseq_c.proofs.Puts.{puts_ok, puts_no_room, puts_none, reported, not_reported}
use Rattle.octseq_c.proofs.pieces.octseq_lossy_piece.Goals as goal

-- the text is too long

pub returns-in_default-measure-clause-puts : goal.returns-in_default-measure-clause-puts
returns-in_default-measure-clause-puts c = λ is. puts_none 5 (omega arith) (one_settled_text _)

pub returns-in_default-measure-clause-too_long : goal.returns-in_default-measure-clause-too_long
returns-in_default-measure-clause-too_long c =
    let read = rw c.in-Some.ensures.some at (c.split.ensures _ c.completed-completed.ensures) in
    reported 5 (c.in-Some.ensures.variant.0 refl, both_past read c.in_default-measure.ensures.past)

-- there is no room

pub returns-then-extent-out-clause-puts : goal.returns-then-extent-out-clause-puts
returns-then-extent-out-clause-puts c =
    let read = rw c.in-Some.ensures.some at (c.split.ensures _ c.completed-completed.ensures) in
    let both = both_text read c.in-Some-measure.ensures.measured in
    λ is. puts_no_room (one_settled_text _) _ both.0 (omega (arith, both.1)) both.1

pub returns-then-extent-out-clause-too_long : goal.returns-then-extent-out-clause-too_long
returns-then-extent-out-clause-too_long c =
    let read = rw c.in-Some.ensures.some at (c.split.ensures _ c.completed-completed.ensures) in
    not_reported 1 5 (λ e. omega arith) (λ p. both_fit read c.in-Some-measure.ensures.measured p.1)

-- it was written

pub holding-requires : goal.holding-requires
holding-requires c = end_few c.in-Some-measure.ensures.measured.settles

pub returns-clause-puts : goal.returns-clause-puts
returns-clause-puts c =
    let read = rw c.in-Some.ensures.some at (c.split.ensures _ c.completed-completed.ensures) in
    let m = c.in-Some-measure.ensures.measured in
    let both = both_text read m in
    let first = c.split.result.0.now in
    let filled = c.fill.ensures _ _ m.settles in
    λ is. puts_ok (one_settled_text _) _ both.0 (omega (arith, both.1)) both.1
    (fills_both _ c.put_at-at.new.out _ first (text m.settled) c.put_at-at.result
    (c.put_at-at.ensures.end ∙ omega arith)
    (c.put_at-at.ensures.octets ∙ ap (λ k. first ++ drop k c.args.out.now) (sym c.put_at-at.ensures.end))
    (rw (sym filled.0) filled.1))

pub returns-clause-state : goal.returns-clause-state
returns-clause-state c =
    let read = rw c.in-Some.ensures.some at (c.split.ensures _ c.completed-completed.ensures) in
    λ ok. state_left c.holding.result
    (both_settle read c.in-Some-measure.ensures.measured.settles) c.holding.ensures.len
    c.holding.ensures.held

pub returns-clause-too_long : goal.returns-clause-too_long
returns-clause-too_long c =
    let read = rw c.in-Some.ensures.some at (c.split.ensures _ c.completed-completed.ensures) in
    not_reported 0 5 (λ e. omega arith) (λ p. both_fit read c.in-Some-measure.ensures.measured p.1)
