use Rattle.octseq_bgp.specs.RewrittenOpen.{IsParameterAnew}
use Rattle.octseq_bgp.proofs.Appending.{each_first, each_none}
use Rattle.octseq_bgp.proofs.message.rewriting.open.read_parameters.Goals as goal

pub parameters-init : goal.parameters-init
parameters-init g c = λ row. row

pub parameters-preserved : goal.parameters-preserved
parameters-preserved g c = λ row. c.parameters.invariant (each_first IsParameterAnew c.in-Some.ensures.steps
    c.read_parameter.ensures.0 c.read_parameter.ensures.1 row)

pub returns : goal.returns
returns g c = c.parameters.invariant (each_none IsParameterAnew c.in_default.ensures.steps.0)
