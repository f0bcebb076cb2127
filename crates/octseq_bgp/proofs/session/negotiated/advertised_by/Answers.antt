use Rattle.std.proofs.Common.{[], ◌++◌, refl, sym, ap, ◌∙◌, subst}
use Rattle.octseq_bgp.specs.CapabilityOf.{parameter_value_of}
use Rattle.octseq_bgp.specs.Negotiated.{SayAll, all_say}
use Rattle.octseq_bgp.specs.SpokenOf.{spoken_of}
use Rattle.octseq_bgp.proofs.Advertised.{say_both}
use Rattle.octseq_bgp.proofs.session.negotiated.advertised_by.Goals as goal

pub parameters-preserved : goal.parameters-preserved
parameters-preserved g c = λ more are.
    let here = c.add_parameter-spoken.ensures in
    let steps = c.in-Some.ensures.steps in
    let all = c.parameters.invariant (here.0 ++ more) (subst (λ row. SayAll row (here.0 ++ more)) (sym steps)
    (parameter_value_of c.value.result, c.value.ensures, here.0, here.1, more, are, refl)) in
    let both = say_both (spoken_of c.parameters.spoken) here.0 more in
    (all.0, all.1, ap (λ s. all_say s more) here.2 ∙ sym both ∙ all.2)

pub returns : goal.returns
returns g c =
    let all = c.parameters.invariant [] (subst (λ row. SayAll row []) (sym c.in_default.ensures.steps.0) refl) in
    (all.0, all.1, all.2)
