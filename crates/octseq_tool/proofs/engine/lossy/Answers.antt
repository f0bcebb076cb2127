use Rattle.std.proofs.Common.{ap, ◌∙◌}
use Rattle.octseq_tool.proofs.engine.lossy.Goals as goal

pub returns-clause-ok : goal.returns-clause-ok
returns-clause-ok g c =
    let fed = c.in_ok-feed_all.ensures.ok in
    let parts = c.one_splitting.ensures.exists fed.0 in
    record {
      input = fed.0;
      consumed = fed.2;
      made = (
        parts.0,
        parts.1,
        ap (λ made. made.items) c.into_octets_builder.ensures.same
            ∙ c.in-Ok.ensures.text fed.0 parts.0 fed.1 parts.1,
      );
    }
