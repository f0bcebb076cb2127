-- None was found so far.
use Rattle.std.proofs.Common.{length}
use Rattle.std.specs.Prelude.{◌↔◌}
use Rattle.octseq_bgp.specs.Handling.{HasType}
use Rattle.octseq_bgp.specs.Lists.{attributes_left}
use Rattle.octseq_bgp.proofs.message.handling.has_type.Given as goal

abbrev pub invariant-attributes : goal.invariant-attributes
invariant-attributes g l = HasType (attributes_left l.fn.attributes) l.fn.type_code ↔ HasType
    (attributes_left l.ahead) l.fn.type_code

abbrev pub decreases-attributes : goal.decreases-attributes
decreases-attributes g l = length (attributes_left l.ahead)
