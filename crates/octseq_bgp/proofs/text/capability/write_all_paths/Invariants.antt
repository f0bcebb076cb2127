-- What is written, and the text of what is ahead, are the whole text.
use Rattle.std.proofs.Common.{◌≡◌, ◌++◌, ℕ, List}
use Rattle.std.specs.Fmt.{HasWritten, IsPlainFormatter}
use Rattle.std.specs.List.{flat_map}
use Rattle.octseq_bgp.specs.CapabilityText.{paths_text}
use Rattle.octseq_bgp.specs.Items.{items_left}
use Rattle.octseq_bgp.specs.OctetsText.{spaced}
use Rattle.octseq_bgp.proofs.text.capability.write_all_paths.Given as goal

abbrev pub invariant-loop-tuple : goal.invariant-loop-tuple
invariant-loop-tuple g l =
    IsPlainFormatter l.initial.f → (done : List ℕ) × HasWritten g.W.Write.write_str_gives l.initial.f done l.f
    × (done ++ flat_map (λ t. spaced (paths_text t)) (items_left l.tuple-iterator) ≡ flat_map
    (λ t. spaced (paths_text t)) (items_left l.fn.families))
