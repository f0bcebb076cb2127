-- Adding a list and then another adds both.
use Rattle.std.proofs.Common.{◌≡◌, List, [], ◌∷◌, ◌++◌, refl}
use Rattle.octseq_bgp.specs.Capability.{CapabilityValue}
use Rattle.octseq_bgp.specs.Negotiated.{Advertised, also_says, all_say}

pub say_both : (s : Advertised) (a b : List CapabilityValue) → all_say s (a ++ b) ≡ all_say (all_say s a) b
say_both s [] b = refl
say_both s (v ∷ a) b = say_both (also_says s v) a b
