use Rattle.std.proofs.Common.{arith, ◌∙◌, ◌++◌}
use Rattle.octseq_utf8.specs.Parts.{text}
use Rattle.octseq_c.proofs.Puts.{puts_ok, puts_no_room, puts_none, reported, not_reported}
use Rattle.octseq_c.proofs.Reported.{fills_both, lossy_fits, lossy_past, lossy_made, lossy_len, lossy_past_end}
use Rattle.octseq_c.proofs.Wholes.{one_lossy_text}
use Rattle.octseq_c.proofs.lossy.octseq_lossy.Goals as goal

-- the text is too long

pub returns-in_default-clause-puts : goal.returns-in_default-clause-puts
returns-in_default-clause-puts c = puts_none 5 (omega arith) (one_lossy_text _)

pub returns-in_default-clause-too_long : goal.returns-in_default-clause-too_long
returns-in_default-clause-too_long c = reported 5 (lossy_past c.in_default.ensures.past)

pub returns-in_default-checked_add-clause-puts : goal.returns-in_default-checked_add-clause-puts
returns-in_default-checked_add-clause-puts c = puts_none 5 (omega arith) (one_lossy_text _)

pub returns-in_default-checked_add-clause-too_long : goal.returns-in_default-checked_add-clause-too_long
returns-in_default-checked_add-clause-too_long c =
    reported 5 (lossy_past_end c.in-Some.ensures.measured _ c.replacement-end.ensures c.in_default-checked_add.ensures)

-- there is no room

pub returns-then-len-out-clause-puts : goal.returns-then-len-out-clause-puts
returns-then-len-out-clause-puts c =
    let m = c.in-Some.ensures.measured in
    let end = c.replacement-end.result.now in
    let len = c.in-Some-checked_add.ensures.1 ∙ lossy_len m end in
    puts_no_room (one_lossy_text _) (text m.settled ++ end)
    (lossy_made m end c.replacement-end.ensures) (omega (arith, len)) len

pub returns-then-len-out-clause-too_long : goal.returns-then-len-out-clause-too_long
returns-then-len-out-clause-too_long c =
    not_reported 1 5 (λ e. omega arith)
    (lossy_fits c.in-Some.ensures.measured _ c.replacement-end.ensures c.in-Some-checked_add.ensures.0)

-- it was written

pub returns-clause-puts : goal.returns-clause-puts
returns-clause-puts c =
    let m = c.in-Some.ensures.measured in
    let end = c.replacement-end.result.now in
    let len = c.in-Some-checked_add.ensures.1 ∙ lossy_len m end in
    let filled = c.fill-at.ensures _ _ m.settles in
    puts_ok (one_lossy_text _) (text m.settled ++ end)
    (lossy_made m end c.replacement-end.ensures) (omega (arith, len)) len
    (fills_both _ _ _ (text m.settled) end c.fill-at.result
    (filled.0 ∙ omega arith) filled.1 c.put_at.ensures.octets)

pub returns-clause-too_long : goal.returns-clause-too_long
returns-clause-too_long c =
    not_reported 0 5 (λ e. omega arith)
    (lossy_fits c.in-Some.ensures.measured _ c.replacement-end.ensures c.in-Some-checked_add.ensures.0)
