use Rattle.std.proofs.Common.{ℕ, ◌++◌, length, ap, rules, arith}
use Rattle.std.proofs.lemmas.List.{length-append}
use Rattle.octseq.proofs.Codes.{length_part}
use Rattle.octseq.proofs.Limits.{past_more}
use Rattle.octseq.proofs.Written.{length_be}
use Rattle.octseq_callers.proofs.frame.append_pieces.Goals as goal

pub returns-in_err-append_u16_be-clause-short : goal.returns-in_err-append_u16_be-clause-short
returns-in_err-append_u16_be-clause-short g c = λ short.
    let all = length_part 2 (c.args.name.now ++ c.args.value.now) in
    let both = length-append c.args.name.now c.args.value.now in
    let len = length_be 2 0 in
    past_more g.B.AsOctets.limit _ _ (omega arith) (c.in_err-append_u16_be.ensures.appended.short.0 (search rules))

pub returns-in_err-append_slice-clause-short : goal.returns-in_err-append_slice-clause-short
returns-in_err-append_slice-clause-short g c = λ short.
    let all = length_part 2 (c.args.name.now ++ c.args.value.now) in
    let both = length-append c.args.name.now c.args.value.now in
    let len = length_be 2 0 in
    let opened = ap length c.in_ok-append_u16_be.ensures.appended.ok in
    past_more g.B.AsOctets.limit _ _ (omega (arith, length-append {A = ℕ}))
    (c.in_err-append_slice.ensures.appended.short.0 (search rules))

pub returns-in_err-append_slice-2-clause-short : goal.returns-in_err-append_slice-2-clause-short
returns-in_err-append_slice-2-clause-short g c = λ short.
    let all = length_part 2 (c.args.name.now ++ c.args.value.now) in
    let both = length-append c.args.name.now c.args.value.now in
    let len = length_be 2 0 in
    let opened = ap length c.in_ok-append_u16_be.ensures.appended.ok in
    let named = ap length c.in_ok-append_slice.ensures.appended.ok in
    past_more g.B.AsOctets.limit _ _ (omega (arith, length-append {A = ℕ}))
    (c.in_err-append_slice-2.ensures.appended.short.0 (search rules))

pub returns-clause-past : goal.returns-clause-past
returns-clause-past g c = λ past.
    let all = length_part 2 (c.args.name.now ++ c.args.value.now) in
    let both = length-append c.args.name.now c.args.value.now in
    let len = length_be 2 0 in
    let opened = ap length c.in_ok-append_u16_be.ensures.appended.ok in
    let named = ap length c.in_ok-append_slice.ensures.appended.ok in
    absurd (c.in_ok-append_slice-2.ensures.appended.short.1
    (past_more g.B.AsOctets.limit _ _ (omega (arith, length-append {A = ℕ})) past))
