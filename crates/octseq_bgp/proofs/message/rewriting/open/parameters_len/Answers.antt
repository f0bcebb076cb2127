use Rattle.std.proofs.Common.{false, arith}
use Rattle.octseq_bgp.proofs.RewrittenOpens.{said_first}
use Rattle.octseq_bgp.proofs.message.rewriting.open.parameters_len.Goals as goal

pub parameters-preserved : goal.parameters-preserved
parameters-preserved g c =
    let first = said_first false c.in-Some.ensures.steps in
    let size = c.remaining.ensures.rest in
    let so_far = c.parameters.invariant in
    omega (arith, first, size, so_far)
