use Rattle.std.proofs.Common.{◌+◌, length, subst, sym, arith}
use Rattle.std.proofs.lemmas.Option.{IfSome_then}
use Rattle.octseq_core.specs.Limit.{ExceedsLimit}
use Rattle.octseq_text.proofs.Counts.{count_after_writes}
use Rattle.octseq_text.proofs.str.display.exceeds.Goals as goal

pub returns-in-Some-Ok : goal.returns-in-Some-Ok
returns-in-Some-Ok g c = λ _.
    IfSome_then (g.D.Display.output c.args.value.now) c.in-Some-Ok.ensures.writes
    (λ octets writes.
    let counted = count_after_writes _ (λ w. w.count) (λ _ _ _ counts. counts) _ octets _ writes in
    let over = c.if-limit-counter.true in
    subst (λ limit. ExceedsLimit limit (c.args.len + length octets)) (sym c.in-Some-Ok.is-0)
    (omega (arith, over, counted)))
