use Rattle.std.proofs.Common.{replicate, ◌++◌, ap, ◌∙◌}
use Rattle.octseq_dns_compress.proofs.Messages.{none_first, sound_none, state_none}
use Rattle.octseq_dns_compress.proofs.compose.Composer.from_builder.Goals as goal

pub invariant_of-result : goal.invariant_of-result
invariant_of-result g c = (
  sound_none (c.keep_before.ensures ∙ none_first (g.T.Compressor.held c.args.table))
      (c.in_ok-append_slice.ensures.appended.ok ∙ ap (λ o. o ++ replicate 12 0) c.truncate.ensures.content),
  tt,
)

pub returns-clause-state : goal.returns-clause-state
returns-clause-state g c =
    state_none (c.keep_before.ensures ∙ none_first (g.T.Compressor.held c.args.table))
    (c.in_ok-append_slice.ensures.appended.ok ∙ ap (λ o. o ++ replicate 12 0) c.truncate.ensures.content)
    c.result-1.given.0.now
