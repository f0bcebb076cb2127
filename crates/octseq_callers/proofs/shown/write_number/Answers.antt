use Rattle.std.proofs.lemmas.Fmt.{contents_after_writes}
use Rattle.std.proofs.lemmas.Result.{on_ok_weaker}
use Rattle.octseq_callers.proofs.shown.write_number.Goals as goal

pub returns : goal.returns
returns g c = on_ok_weaker _ (contents_after_writes _ g.B.AsOctets.content (λ _ _ _ t. t.0) _ _ _)
    c.write.ensures.writes
