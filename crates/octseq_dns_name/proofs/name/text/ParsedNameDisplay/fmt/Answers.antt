use Rattle.std.proofs.Common.{[], ◌∷◌, ◌++◌, ap, sym, ◌∙◌, append_assoc, rules}
use Rattle.std.proofs.Output.{has_written_append}
use Rattle.octseq_dns_name.specs.Read.{labels_left, label_octets}
use Rattle.octseq_dns_name.specs.Text.{label_text, labels_text}
use Rattle.octseq_dns_name.proofs.name.text.ParsedNameDisplay.fmt.Goals as goal

pub loop-label-init : goal.loop-label-init
loop-label-init g c = λ plain. (
  [],
  search rules,
  ap (λ l. labels_text (labels_left l)) c.into_iter-label-iterator.ensures.into_iter_gives
      ∙ ap labels_text c.labels-label-items.ensures.labels,
)

pub loop-label-preserved : goal.loop-label-preserved
loop-label-preserved g c = λ plain.
    let so_far = c.loop-label.invariant plain in
    let text = label_text (label_octets c.in-Some.label) ++ 46 ∷ [] in (
      so_far.0 ++ text,
      has_written_append _ _ _ _ _ _ so_far.1 (search rules),
      append_assoc so_far.0 text (labels_text (labels_left c.next.new.self))
          ∙ ap (λ labels. so_far.0 ++ labels_text labels) (sym c.in-Some.ensures.steps.0) ∙ so_far.2,
    )
