use Rattle.std.proofs.Common.{arith}
use Rattle.std.proofs.lemmas.Option.{IfSome_then}
use Rattle.std.proofs.lemmas.Result.{on_ok_weaker}
use Rattle.octseq.proofs.Counts.{count_after_writes}
use Rattle.octseq_c.proofs.OwnText.{counted_some}
use Rattle.octseq_c.proofs.shown.shown_len.Goals as goal

pub returns : goal.returns
returns g c =
    let len = on_ok_weaker c.write-shown.result (λ shown. IfSome_then (g.D.Display.output c.args.value.now) shown
    (λ octets writes.
    let counted = count_after_writes _ (λ w. w.count) (λ _ _ _ counts. counts) _ octets _ writes in
    omega (arith, counted))) c.write-shown.ensures.writes in
    counted_some c.write-shown.result _ _ _ c.counted.ensures.ok c.counted.ensures.err len
