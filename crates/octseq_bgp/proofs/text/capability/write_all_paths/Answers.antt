use Rattle.std.proofs.Common.{rules, ℕ, List, ◌++◌, ap, sym, ◌∙◌, append_assoc}
use Rattle.std.proofs.Output.{has_written_append}
use Rattle.std.specs.List.{flat_map}
use Rattle.octseq_bgp.specs.CapabilityText.{paths_text}
use Rattle.octseq_bgp.specs.Items.{items_left}
use Rattle.octseq_bgp.specs.OctetsText.{spaced}
use Rattle.octseq_bgp.proofs.text.capability.write_all_paths.Goals as goal

pub loop-tuple-preserved : goal.loop-tuple-preserved
loop-tuple-preserved g c = λ plain.
    let so_far = c.loop-tuple.invariant plain in
    let more = items_left c.next.new.self in
    let text : List ℕ = let it = c.in-Some.tuple in spaced (paths_text (it.afi, (it.safi, it.flags))) in (
      so_far.0 ++ text,
      has_written_append _ _ _ _ _ _ so_far.1 (search rules),
      append_assoc so_far.0 text (flat_map (λ t. spaced (paths_text t)) more)
          ∙ ap (λ row. so_far.0 ++ flat_map (λ t. spaced (paths_text t)) row) (sym c.in-Some.ensures.steps) ∙ so_far.2,
    )
