use Rattle.std.proofs.Common.{◌+◌, ap, sym, ◌∙◌}
use Rattle.octseq_bgp.proofs.WrittenOpens.{length_capability}
use Rattle.octseq_bgp.proofs.message.open_builder.CapabilityParameterComposeParameter.value_len.Goals as goal

pub returns-clause-some : goal.returns-clause-some
returns-clause-some g c =
    ap (λ n. 2 + n) c.in_ok-len.ensures.some
    ∙ sym (length_capability (g.C.ComposeCapability.says c.args.self.now.capability.now))
