use Rattle.std.proofs.Common.{rules, [], ◌++◌, refl, sym, subst, append_assoc, append-nil}
use Rattle.std.proofs.Output.{has_written_append}
use Rattle.octseq_mrt.specs.Parsed.{attribute_of, attributes_left, rib_value_of}
use Rattle.octseq_mrt.specs.RecordText.{rib_attribute_lines, AreRibAttributeLines}
use Rattle.octseq_mrt.proofs.text.rib.write_attributes.Goals as goal

pub loop-attribute-init : goal.loop-attribute-init
loop-attribute-init g c = record {
  done = [];
  written = search rules;
  whole = λ more text. subst (λ row. AreRibAttributeLines (attributes_left row) more)
      c.into_iter-attribute-iterator.ensures.into_iter_gives text;
}

pub loop-attribute-preserved : goal.loop-attribute-preserved
loop-attribute-preserved g c =
    let so_far = c.loop-attribute.invariant in
    let v = rib_value_of c.value-value.result in
    let text = rib_attribute_lines (attribute_of c.in-Some.attribute) v in
    record {
      done = so_far.done ++ text;
      written = λ plain. has_written_append _ _ _ _ _ _ (so_far.written plain) (search rules);
      whole = λ more is.
          let ahead = subst (λ row. AreRibAttributeLines row (text ++ more)) (sym c.in-Some.ensures.steps)
          (v, more, c.value-value.ensures, is, refl) in
          subst (AreRibAttributeLines (attributes_left c.args.attributes)) (sym (append_assoc so_far.done text more))
          (so_far.whole (text ++ more) ahead);
    }

pub returns : goal.returns
returns g c =
    let so_far = c.loop-attribute.invariant in
    let all = subst (AreRibAttributeLines (attributes_left c.args.attributes)) (append-nil so_far.done) (so_far.whole []
    (rw c.in-None.ensures.steps.0 refl)) in
    (so_far.done, all, so_far.written)
