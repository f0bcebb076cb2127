use Rattle.std.proofs.Common.{◌∷◌, ◌++◌, ap, sym, ◌∙◌, append_assoc, rules}
use Rattle.std.proofs.Output.{has_written_append}
use Rattle.std.specs.List.{flat_map}
use Rattle.octseq_dns_data.specs.SvcParamsRead.{param_of, params_left}
use Rattle.octseq_dns_data.specs.SvcParamsText.{param_text}
use Rattle.octseq_dns_data.proofs.svc_params.text.SvcParamsDisplay.fmt.Goals as goal

pub loop-param-preserved : goal.loop-param-preserved
loop-param-preserved g c = λ plain.
    let so_far = c.loop-param.invariant plain in
    let more = params_left c.next.new.self in
    let text = 32 ∷ param_text (param_of c.in-Some.param) in (
      so_far.0 ++ text,
      has_written_append _ _ _ _ _ _ so_far.1 (search rules),
      append_assoc so_far.0 text (flat_map (λ param. 32 ∷ param_text param) more)
          ∙ ap (λ params. so_far.0 ++ flat_map (λ param. 32 ∷ param_text param) params) (sym c.in-Some.ensures.steps)
          ∙ so_far.2,
    )
