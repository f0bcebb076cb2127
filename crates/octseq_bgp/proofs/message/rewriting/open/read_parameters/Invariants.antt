-- If those ahead have values, all do.
use Rattle.std.proofs.Common.{List, length}
use Rattle.octseq_bgp.specs.Lists.{parameters_left}
use Rattle.octseq_bgp.specs.RewrittenOpen.{Each, IsParameterAnew}
use Rattle.octseq_bgp.specs.WrittenOpen.{WrittenParameter}
use Rattle.octseq_bgp.proofs.message.rewriting.open.read_parameters.Given as goal

abbrev pub invariant-parameters : goal.invariant-parameters
invariant-parameters g l = (row : List WrittenParameter) × Each IsParameterAnew (parameters_left l.ahead) row
    → (row : List WrittenParameter) × Each IsParameterAnew (parameters_left l.fn.parameters) row

abbrev pub decreases-parameters : goal.decreases-parameters
decreases-parameters g l = length (parameters_left l.ahead)
