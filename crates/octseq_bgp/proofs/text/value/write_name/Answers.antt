use Rattle.std.proofs.Common.{rules, refl, ap, ◌∙◌}
use Rattle.std.proofs.Output.{has_written_of_eq}
use Rattle.octseq_bgp.specs.ValueText.{attribute_name_text}
use Rattle.octseq_bgp.proofs.Names.{type_is_named, number_is_named}
use Rattle.octseq_bgp.proofs.text.value.write_name.Goals as goal

pub returns-in-Some : goal.returns-in-Some
returns-in-Some g c = λ plain ok.
    has_written_of_eq _ _ _ _ _ (type_is_named c.in-Some.kind ∙ ap attribute_name_text c.in-Some.ensures.some)
    (search rules)

pub returns-in-None : goal.returns-in-None
returns-in-None g c = λ plain ok.
    has_written_of_eq _ _ _ _ _ (number_is_named c.args.type_code (c.in-None.ensures.none refl)) (search rules)
