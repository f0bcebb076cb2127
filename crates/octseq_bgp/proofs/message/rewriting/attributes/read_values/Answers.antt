use Rattle.std.proofs.Common.{refl, ◌∙◌, subst}
use Rattle.octseq.specs.Parser.{window}
use Rattle.octseq_bgp.specs.Lists.{attribute_of}
use Rattle.octseq_bgp.specs.Rewritten.{attribute_anew}
use Rattle.octseq_bgp.specs.Value.{IsValue}
use Rattle.octseq_bgp.specs.ValueOf.{value_of}
use Rattle.octseq_bgp.proofs.Appending.{each_first, each_none}
use Rattle.octseq_bgp.proofs.message.rewriting.attributes.read_values.Goals as goal

pub attributes-init : goal.attributes-init
attributes-init g c = record { session = refl; whole = λ row. row }

pub attributes-preserved : goal.attributes-preserved
attributes-preserved g c =
    let so_far = c.attributes.invariant in
    let it = c.in-Some.attribute in
    let steps = c.in-Some.ensures.steps in
    let v = value_of c.value-value.result in
    let is = subst (λ s. IsValue s it.type_code (window it.value) v) (steps.2 ∙ so_far.session) c.value-value.ensures in
    record {
      session = steps.1 ∙ so_far.session;
      whole = λ row. so_far.whole (each_first _ steps.0 (attribute_anew (attribute_of it) v) (v, is, refl) row);
    }

pub returns : goal.returns
returns g c = c.attributes.invariant.whole (each_none _ c.in_default.ensures.steps.0.0)
