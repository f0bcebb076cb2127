use Rattle.std.proofs.Common.{rules, [], ◌++◌, refl, sym, subst, ◌∙◌, append_assoc, append-nil}
use Rattle.std.proofs.Output.{has_written_append, has_written_of_eq}
use Rattle.octseq.specs.Parser.{window}
use Rattle.octseq_bgp.specs.Lists.{attribute_of, attributes_left, attributes_session}
use Rattle.octseq_bgp.specs.MessageText.{attribute_lines, AreAttributeLines}
use Rattle.octseq_bgp.specs.Value.{IsValue}
use Rattle.octseq_bgp.specs.ValueOf.{value_of}
use Rattle.octseq_bgp.proofs.text.lines.write_attributes.Goals as goal

pub attributes-init : goal.attributes-init
attributes-init g c = record { done = []; session = refl; written = search rules; whole = λ more text. text }

pub attributes-preserved : goal.attributes-preserved
attributes-preserved g c =
    let so_far = c.attributes.invariant in
    let attribute = c.in-Some.attribute in
    let s = attributes_session c.args.attributes in
    let v = value_of c.value-value.result in
    let text = attribute_lines (attribute_of attribute) v in
    record {
      done = so_far.done ++ text;
      session = c.in-Some.ensures.steps.1 ∙ so_far.session;
      written = λ plain. has_written_append _ _ _ _ _ _ (so_far.written plain) (search rules);
      whole = λ more is.
          let said = subst (λ session. IsValue session attribute.type_code (window attribute.value) v)
          (c.in-Some.ensures.steps.2 ∙ so_far.session) c.value-value.ensures in
          let ahead = subst (λ row. AreAttributeLines s row (text ++ more)) (sym c.in-Some.ensures.steps.0)
          (v, more, said, is, refl) in
          subst (AreAttributeLines s (attributes_left c.args.attributes)) (sym (append_assoc so_far.done text more))
          (so_far.whole (text ++ more) ahead);
    }

pub returns : goal.returns
returns g c =
    let so_far = c.attributes.invariant in
    let s = attributes_session c.args.attributes in
    let none = subst (λ row. AreAttributeLines s row []) (sym c.in_default.ensures.steps.0.0) refl in (
      so_far.done ++ [],
      so_far.whole [] none,
      λ plain. has_written_of_eq _ _ _ _ _ (sym (append-nil so_far.done)) (so_far.written plain),
    )
