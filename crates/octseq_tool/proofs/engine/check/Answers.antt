use Rattle.std.proofs.Common.{refl, ap, ◌∙◌}
use Rattle.octseq_tool.proofs.engine.check.Goals as goal

pub returns-in_ok-line-in-None-clause-ok : goal.returns-in_ok-line-in-None-clause-ok
returns-in_ok-line-in-None-clause-ok g c =
    let fed = c.in_ok-feed_all.ensures.ok in
    let line = ap (λ made. made.items) c.into_bytes.ensures.value ∙ c.in_ok-line-in-None.ensures.ok in
    record {
      input = fed.0;
      consumed = fed.2;
      made = ((c.in-None.ensures.none fed.0 fed.1.0).0 refl, rw (← fed.1.1) line);
    }
