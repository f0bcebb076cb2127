use Rattle.std.proofs.Common.{◌+◌, length, ap, subst, sym, arith}
use Rattle.octseq_text.proofs.Counts.{count_after_writes}
use Rattle.octseq_core.specs.Limit.{ExceedsLimit}
use Rattle.octseq_text.proofs.str.lines.exceeds.Goals as goal

pub returns-in-Some-Ok : goal.returns-in-Some-Ok
returns-in-Some-Ok g c = λ _ lines are.
    let shown = rw c.in-Some-Ok.is-1 at c.write_lines-shown.ensures.shown in
    let same = ap length (c.requires _ _ shown.1 are) in
    let written = shown.2 c.new-f.ensures.plain in
    let counted = count_after_writes _ (λ w. w.count) (λ _ _ _ counts. counts) _ shown.0 _ written.wrote in
    let first = ap (λ w. w.count) c.new-f.ensures.writer in
    let last = ap (λ w. w.count) c.into_inner-counter.ensures in
    let over = c.if-limit-counter.true in
    subst (λ limit. ExceedsLimit limit (c.args.len + length lines)) (sym c.in-Some-Ok.is-0)
    (omega (arith, over, counted, same, first, last))
