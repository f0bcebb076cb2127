-- If those ahead have values, all do.
use Rattle.std.proofs.Common.{List, length}
use Rattle.octseq_bgp.specs.CapabilityOf.{capabilities_left}
use Rattle.octseq_bgp.specs.RewrittenOpen.{Each, IsCapabilityAnew}
use Rattle.octseq_bgp.specs.WrittenOpen.{WrittenParameter}
use Rattle.octseq_bgp.proofs.message.rewriting.open.read_capabilities.Given as goal

abbrev pub invariant-capabilities : goal.invariant-capabilities
invariant-capabilities g l = (row : List WrittenParameter) × Each IsCapabilityAnew (capabilities_left l.ahead) row
    → (row : List WrittenParameter) × Each IsCapabilityAnew (capabilities_left l.fn.capabilities) row

abbrev pub decreases-capabilities : goal.decreases-capabilities
decreases-capabilities g l = length (capabilities_left l.ahead)
