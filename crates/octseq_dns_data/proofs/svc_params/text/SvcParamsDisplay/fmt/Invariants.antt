-- What is written, and the text of the parameters ahead, are the whole text.
use Rattle.std.proofs.Common.{◌≡◌, ℕ, List, ◌∷◌, ◌++◌}
use Rattle.std.specs.Fmt.{HasWritten, IsPlainFormatter}
use Rattle.std.specs.List.{flat_map}
use Rattle.octseq.specs.Window.{rest}
use Rattle.octseq_dns_data.specs.SvcParamsRead.{params_left, params_place}
use Rattle.octseq_dns_data.specs.SvcParamsText.{param_text, svc_params_text}
use Rattle.octseq_dns_data.proofs.svc_params.text.SvcParamsDisplay.fmt.Given as goal

abbrev pub invariant-loop-param : goal.invariant-loop-param
invariant-loop-param g l =
    IsPlainFormatter l.fn.f → (done : List ℕ) × HasWritten g.W.Write.write_str_gives l.fn.f done l.f
    × (done ++ flat_map (λ param. 32 ∷ param_text param) (params_left l.param-iterator)
    ≡ svc_params_text (rest (params_place l.fn.self)))
