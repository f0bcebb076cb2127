-- What was said so far, and what the parameters that are left say, is what all of them say.
use Rattle.std.proofs.Common.{◌≡◌, List, length}
use Rattle.octseq_bgp.specs.Capability.{CapabilityValue}
use Rattle.octseq_bgp.specs.Lists.{parameters_left}
use Rattle.octseq_bgp.specs.Negotiated.{SayAll, all_say, none_advertised}
use Rattle.octseq_bgp.specs.SpokenOf.{spoken_of}
use Rattle.octseq_bgp.proofs.session.negotiated.advertised_by.Given as goal

abbrev pub invariant-parameters : goal.invariant-parameters
invariant-parameters g l = (more : List CapabilityValue) → SayAll (parameters_left l.ahead) more
    → (values : List CapabilityValue) × SayAll (parameters_left l.fn.parameters) values
    × (all_say (spoken_of l.spoken) more ≡ all_say none_advertised values)

abbrev pub decreases-parameters : goal.decreases-parameters
decreases-parameters g l = length (parameters_left l.ahead)
