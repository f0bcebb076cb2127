use Rattle.std.proofs.Common.{inl, inr, sym, ◌∙◌}
use Rattle.octseq_dns_data.specs.SvcParamsText.{key_names}
use Rattle.octseq_dns_text.proofs.KeyTexts.{named_among, unnamed}
use Rattle.octseq_dns_text.proofs.params.key.scan_key.Goals as goal

pub returns-in-Some-clause-some : goal.returns-in-Some-clause-some
returns-in-Some-clause-some c =
    inl (named_among key_names c.args.name.now c.in-Some.key (sym c.named_key.ensures ∙ c.in-Some.is))

pub returns-in-None-clause-none : goal.returns-in-None-clause-none
returns-in-None-clause-none c = λ none key is.
    elim is [
      | inl named ↦ unnamed key_names c.args.name.now (sym c.named_key.ensures ∙ c.in-None.is) key named
      | inr numbered ↦ c.numbered_key.ensures.none none key numbered
    ]
