use Rattle.std.proofs.Common.{refl}
use Rattle.octseq.specs.Parser.{window}
use Rattle.octseq.specs.Window.{rest}
use Rattle.octseq_bgp.specs.CapabilityOf.{capability_value_of}
use Rattle.octseq_bgp.specs.RewrittenOpen.{IsCapabilityAnew, capability_anew}
use Rattle.octseq_bgp.proofs.Appending.{each_first, each_none}
use Rattle.octseq_bgp.proofs.message.rewriting.open.read_capabilities.Goals as goal

pub capabilities-init : goal.capabilities-init
capabilities-init g c = λ row. row

pub capabilities-preserved : goal.capabilities-preserved
capabilities-preserved g c =
    let it = c.in-Some.capability in
    let v = capability_value_of c.value-value.result in
    λ row. c.capabilities.invariant (each_first IsCapabilityAnew c.in-Some.ensures.steps
    (it.code, capability_anew v (rest (window it.octets))) (v, c.value-value.ensures, refl) row)

pub returns : goal.returns
returns g c = c.capabilities.invariant (each_none IsCapabilityAnew c.in_default.ensures.steps.0)
