use Rattle.std.proofs.Common.{false, refl}
use Rattle.octseq.specs.Parser.{window}
use Rattle.octseq.specs.Window.{rest}
use Rattle.octseq_bgp.specs.Capability.{ParameterValue}
use Rattle.octseq_bgp.specs.CapabilityOf.{capabilities_left}
use Rattle.octseq_bgp.specs.WrittenOpen.{parameters_octets}
use Rattle.octseq_bgp.proofs.message.rewriting.open.read_parameter.Goals as goal

pub returns-in-Capabilities : goal.returns-in-Capabilities
returns-in-Capabilities g c =
    let row = c.read_capabilities.ensures in
    let octets = parameters_octets false row.0 in (
      (c.args.parameter.now.kind, octets),
      (
        ParameterValue.capabilities (capabilities_left c.in-Capabilities.capabilities),
        octets,
        c.in-Capabilities.ensures,
        (row.0, row.1, refl),
        refl,
      ),
    )

pub returns-in-Opaque : goal.returns-in-Opaque
returns-in-Opaque g c =
    let w = window c.in-Opaque.field-0 in
    ((c.args.parameter.now.kind, rest w), (ParameterValue.opaque w, rest w, c.in-Opaque.ensures, refl, refl))
