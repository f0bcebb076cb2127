use Rattle.std.proofs.Common.{rules, ℕ, List, ◌++◌, ap, sym, ◌∙◌, append_assoc}
use Rattle.std.proofs.Output.{has_written_append}
use Rattle.std.specs.List.{flat_map}
use Rattle.octseq_bgp.specs.Items.{items_left}
use Rattle.octseq_bgp.specs.OctetsText.{number_dotted, spaced}
use Rattle.octseq_bgp.proofs.text.value.write_cluster_ids.Goals as goal

pub loop-item-preserved : goal.loop-item-preserved
loop-item-preserved g c = λ plain.
    let so_far = c.loop-item.invariant plain in
    let more = items_left c.next.new.self in
    let text : List ℕ = spaced (number_dotted c.in-Some.item.0) in (
      so_far.0 ++ text,
      has_written_append _ _ _ _ _ _ so_far.1 (search rules),
      append_assoc so_far.0 text (flat_map (λ n. spaced (number_dotted n)) more)
          ∙ ap (λ row. so_far.0 ++ flat_map (λ n. spaced (number_dotted n)) row) (sym c.in-Some.ensures.steps)
          ∙ so_far.2,
    )
