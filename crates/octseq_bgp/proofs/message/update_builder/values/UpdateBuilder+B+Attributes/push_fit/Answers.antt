use Rattle.std.proofs.Common.{length, ap, ◌∙◌, arith}
use Rattle.octseq_bgp.specs.AttributeType.{type_number}
use Rattle.octseq_bgp.specs.Written.{flags_for}
use Rattle.octseq_bgp.specs.WrittenValue.{value_octets, value_type}
use Rattle.octseq_bgp.proofs.Attributes.{typed_fits}
use Rattle.octseq_bgp.proofs.Pushes.{pushes_good}
use Rattle.octseq_bgp.proofs.message.update_builder.values.UpdateBuilder+B+Attributes.push_fit.Goals as goal

pub returns-clause-pushed : goal.returns-clause-pushed
returns-clause-pushed g c =
    let v = g.A.ComposeAttribute.says c.args.value.now in
    let fit = rw (← c.self.view_is) at c.requires.fit in
    let flags = c.flags_for.ensures ∙ ap (λ t. flags_for t c.args.len) c.attribute_type-kind.ensures
    ∙ ap (flags_for (value_type v)) (rw (← c.self.view_is) at c.requires.len) in
    let number = c.number.ensures ∙ ap type_number c.attribute_type-kind.ensures in
    rw (← c.self.view_is)
    (pushes_good c.push_tail.result (rw (← c.self.view_is, flags, number) at c.push_tail.ensures.pushed)
    (typed_fits (value_type v) (length (value_octets c.self.inside.session v)) (omega (arith, fit.short))))
