-- None was found so far.
use Rattle.std.proofs.Common.{length}
use Rattle.std.specs.Prelude.{◌↔◌}
use Rattle.octseq_bgp.specs.Handling.{ReachesSome}
use Rattle.octseq_bgp.specs.Lists.{attributes_left}
use Rattle.octseq_bgp.proofs.message.handling.has_reach_with_prefixes.Given as goal

abbrev pub invariant-attributes : goal.invariant-attributes
invariant-attributes g l = ReachesSome l.fn.session (attributes_left l.fn.attributes) ↔ ReachesSome l.fn.session
    (attributes_left l.ahead)

abbrev pub decreases-attributes : goal.decreases-attributes
decreases-attributes g l = length (attributes_left l.ahead)
