use Rattle.std.proofs.Common.{subst}
use Rattle.std.specs.Fmt.{WritesOnOk}
use Rattle.octseq.specs.Parser.{window}
use Rattle.octseq_bgp.specs.Lists.{attribute_of}
use Rattle.octseq_bgp.specs.ValueOf.{value_of}
use Rattle.octseq_bgp.specs.ValueText.{attribute_text}
use Rattle.octseq_bgp.proofs.Values.{one_value}
use Rattle.octseq_bgp.proofs.text.value.PathAttributeDisplay.fmt.Goals as goal

pub returns : goal.returns
returns g c = record {
  shown = λ value is.
      let it = c.args.self.now in
      subst (λ said. WritesOnOk g.W.Write.write_str_gives c.args.f.now c.write_attribute.result
      (attribute_text (attribute_of it) said) c.write_attribute.new.f)
      (one_value it.session it.type_code (window it.value)
      (value_of c.value-value.result) value c.value-value.ensures is)
      c.write_attribute.ensures;
}
