-- The worst so far, and the worst of those that are left, are the worst of all.
use Rattle.std.proofs.Common.{◌≡◌, ◌<◌, ℕ, List, [], true, false, length, get_or}
use Rattle.std.specs.Prelude.{◌↔◌, max}
use Rattle.octseq_bgp.specs.Handling.{rank, HasType, IsWorst}
use Rattle.octseq_bgp.specs.Lists.{attributes_left}
use Rattle.octseq_bgp.specs.Parts.{Attribute}
use Rattle.octseq_bgp.proofs.message.handling.worst_handling.Given as goal

abbrev pub invariant-attributes : goal.invariant-attributes
invariant-attributes g l = (before : List Attribute)
    × ((k : ℕ) → k < 256 → (get_or l.seen k false ≡ true) ↔ HasType before k)
    × ((n : ℕ) → IsWorst l.fn.session l.fn.external before (attributes_left l.ahead) n
    → IsWorst l.fn.session l.fn.external [] (attributes_left l.fn.attributes) (max (rank l.worst) n))
    × (length l.seen ≡ 256)

abbrev pub decreases-attributes : goal.decreases-attributes
decreases-attributes g l = length (attributes_left l.ahead)
