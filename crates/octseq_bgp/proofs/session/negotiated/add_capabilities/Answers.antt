use Rattle.std.proofs.Common.{[], ◌∷◌, refl, sym, ap, ◌∙◌, subst}
use Rattle.octseq_bgp.specs.CapabilityOf.{capability_value_of}
use Rattle.octseq_bgp.specs.Negotiated.{AreValues, all_say}
use Rattle.octseq_bgp.proofs.session.negotiated.add_capabilities.Goals as goal

pub capabilities-preserved : goal.capabilities-preserved
capabilities-preserved g c = λ more are.
    let v = capability_value_of c.value.result in
    let steps = c.in-Some.ensures.steps in
    let all = c.capabilities.invariant (v ∷ more)
    (subst (λ row. AreValues row (v ∷ more)) (sym steps) (v, c.value.ensures, more, are, refl)) in
    (all.0, all.1, ap (λ s. all_say s more) c.also-spoken.ensures ∙ all.2)

pub returns : goal.returns
returns g c =
    let all = c.capabilities.invariant [] (subst (λ row. AreValues row []) (sym c.in_default.ensures.steps.0) refl) in
    (all.0, all.1, all.2)
