-- What was said so far, and what the capabilities that are left say, is what all of them say.
use Rattle.std.proofs.Common.{◌≡◌, List, length}
use Rattle.octseq_bgp.specs.Capability.{CapabilityValue}
use Rattle.octseq_bgp.specs.CapabilityOf.{capabilities_left}
use Rattle.octseq_bgp.specs.Negotiated.{AreValues, all_say}
use Rattle.octseq_bgp.specs.SpokenOf.{spoken_of}
use Rattle.octseq_bgp.proofs.session.negotiated.add_capabilities.Given as goal

abbrev pub invariant-capabilities : goal.invariant-capabilities
invariant-capabilities g l = (more : List CapabilityValue) → AreValues (capabilities_left l.ahead) more
    → (values : List CapabilityValue) × AreValues (capabilities_left l.fn.capabilities) values
    × (all_say (spoken_of l.spoken) more ≡ all_say (spoken_of l.fn.before) values)

abbrev pub decreases-capabilities : goal.decreases-capabilities
decreases-capabilities g l = length (capabilities_left l.ahead)
