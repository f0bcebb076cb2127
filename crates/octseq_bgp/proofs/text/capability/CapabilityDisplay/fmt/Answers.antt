use Rattle.std.proofs.Common.{subst}
use Rattle.std.specs.Fmt.{WritesOnOk}
use Rattle.octseq.specs.Parser.{window}
use Rattle.octseq_bgp.specs.CapabilityOf.{capability_value_of}
use Rattle.octseq_bgp.specs.CapabilityText.{capability_text}
use Rattle.octseq_bgp.proofs.OneCapability.{one_capability_value}
use Rattle.octseq_bgp.proofs.text.capability.CapabilityDisplay.fmt.Goals as goal

pub returns : goal.returns
returns g c = record {
  shown = λ value is.
      let it = c.args.self.now in
      subst (λ said. WritesOnOk g.W.Write.write_str_gives c.args.f.now c.write_capability.result
      (capability_text it.code said) c.write_capability.new.f)
      (one_capability_value it.code (window it.octets) (capability_value_of c.value-value.result) value
      c.value-value.ensures is) c.write_capability.ensures;
}
