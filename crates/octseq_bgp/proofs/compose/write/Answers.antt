use Rattle.octseq_bgp.proofs.compose.write.Goals as goal

pub returns-in-Ok-clause-extends : goal.returns-in-Ok-clause-extends
returns-in-Ok-clause-extends g c kind body is =
    let done = c.in-Ok.ensures.extends kind body is in
    record { ok = done.ok; err = tt; fits = λ none. none; short = done.short; memory = λ none. absurd none }
