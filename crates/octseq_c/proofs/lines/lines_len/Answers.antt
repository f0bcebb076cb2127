use Rattle.std.proofs.Common.{ap, arith}
use Rattle.std.proofs.lemmas.Result.{on_ok_weaker}
use Rattle.octseq.proofs.Counts.{count_after_writes}
use Rattle.octseq_c.proofs.OwnText.{counted_some}
use Rattle.octseq_c.proofs.lines.lines_len.Goals as goal

pub returns : goal.returns
returns g c =
    let len = on_ok_weaker c.write_lines-shown.result (λ shown.
    let written = shown.2 c.new-f.ensures.plain in
    let counted = count_after_writes _ (λ w. w.count) (λ _ _ _ counts. counts) _ shown.0 _ written.wrote in
    let first = ap (λ w. w.count) c.new-f.ensures.writer in
    let last = ap (λ w. w.count) c.into_inner.ensures in
    (shown.0, shown.1, omega (arith, counted, first, last))) c.write_lines-shown.ensures.shown in
    counted_some c.write_lines-shown.result _ _ _ c.counted.ensures.ok c.counted.ensures.err len
