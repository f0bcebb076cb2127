use Rattle.std.proofs.Common.{[], ◌+◌, length, refl, arith, ap, sym, ◌∙◌, subst}
use Rattle.octseq_text.proofs.Piecewise.{read_valid, read_to_end}
use Rattle.octseq_c.specs.LossyText.{end_text}
use Rattle.octseq_c.proofs.SettledTexts.{ReadsTo, to_start, to_more, read_mark, past_size, measured}
use Rattle.octseq_c.proofs.settled.measure.Goals as goal

pub loop-chunk-init : goal.loop-chunk-init
loop-chunk-init c = rw (c.into_iter-chunk-iterator.ensures.into_iter_gives, c.chunks-chunk-items.ensures)
    (record { read = to_start _ _; fits = omega arith })

pub returns-in_err-text_len-clause-past : goal.returns-in_err-text_len-clause-past
returns-in_err-text_len-clause-past c =
    let valid = to_more c.loop-chunk.invariant.read (read_valid _ _ _ c.in-Some.ensures.steps []) refl in
    rw c.from_residual.ensures (past_size valid (omega (arith, ap length c.valid.ensures, c.in_err-text_len.ensures)))

pub returns-then-is_incomplete-clause-measured : goal.returns-then-is_incomplete-clause-measured
returns-then-is_incomplete-clause-measured c =
    let gives = c.in-Some.ensures.steps in
    let cut = sym c.is_incomplete.ensures ∙ c.if-is_incomplete.true in
    let long = c.in_ok-text_len.ensures.1 ∙ ap (λ y. c.loop-chunk.text_len + length y) c.valid.ensures in
    let all = to_more c.loop-chunk.invariant.read (read_to_end _ _ _ gives cut []) long in
    rw c.invalid-end.ensures (measured all (λ some. (gives.cut.0 cut).0) (omega (arith, c.in_ok-text_len.ensures)))

pub returns-in_err-text_len-2-clause-past : goal.returns-in_err-text_len-2-clause-past
returns-in_err-text_len-2-clause-past c =
    let gives = c.in-Some.ensures.steps in
    let long = c.in_ok-text_len.ensures.1 ∙ ap (λ y. c.loop-chunk.text_len + length y) c.valid.ensures in
    let valid = to_more c.loop-chunk.invariant.read (read_valid _ _ _ gives []) long in
    let all = to_more valid (read_mark _ _ _ gives _ c.is_incomplete.ensures c.if-is_incomplete.false) refl in
    let mark = c.replacement.ensures ∙ ap end_text c.invalid.ensures in
    rw c.from_residual-in_err-text_len-2.ensures
    (past_size all (omega (arith, ap length mark, c.in_err-text_len-2.ensures)))

pub loop-chunk-preserved : goal.loop-chunk-preserved
loop-chunk-preserved c =
    let gives = c.in-Some.ensures.steps in
    let long = c.in_ok-text_len.ensures.1 ∙ ap (λ y. c.loop-chunk.text_len + length y) c.valid.ensures in
    let valid = to_more c.loop-chunk.invariant.read (read_valid _ _ _ gives []) long in
    let mark = c.replacement.ensures ∙ ap end_text c.invalid.ensures in
    record {
      read = to_more valid (read_mark _ _ _ gives _ c.is_incomplete.ensures c.if-is_incomplete.false)
          (c.in_ok-text_len-2.ensures.1 ∙ ap (λ y. c.in_ok-text_len.text_len + length y) mark);
      fits = omega (arith, c.in_ok-text_len-2.ensures);
    }

pub returns-clause-measured : goal.returns-clause-measured
returns-clause-measured c =
    let all = subst (λ y. ReadsTo c.args.octets.now y c.args.before c.loop-chunk.text_len) c.in-None.ensures.steps.0
    c.loop-chunk.invariant.read in
    measured all (λ some. absurd (some refl)) c.loop-chunk.invariant.fits
