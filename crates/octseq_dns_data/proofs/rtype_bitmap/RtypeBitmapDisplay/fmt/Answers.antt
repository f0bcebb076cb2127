use Rattle.std.proofs.Common.{[], ◌∷◌, ◌++◌, ap, sym, ◌∙◌, append_assoc, rules}
use Rattle.std.proofs.Output.{has_written_append}
use Rattle.octseq_dns_data.specs.Mnemonic.{rtype_text}
use Rattle.octseq_dns_data.specs.RtypeBitmapOf.{rtypes_left}
use Rattle.octseq_dns_data.specs.RtypeBitmapText.{rtypes_text}
use Rattle.octseq_dns_data.proofs.rtype_bitmap.RtypeBitmapDisplay.fmt.Goals as goal

pub loop-rtype-init : goal.loop-rtype-init
loop-rtype-init g c = λ plain. (
  [],
  search rules,
  ap (λ iter. rtypes_text (rtypes_left iter)) c.into_iter-rtype-iterator.ensures.into_iter_gives
      ∙ ap rtypes_text c.iter-rtype-items.ensures,
)

pub loop-rtype-preserved : goal.loop-rtype-preserved
loop-rtype-preserved g c = λ plain.
    let so_far = c.loop-rtype.invariant plain in
    let text = 32 ∷ rtype_text c.in-Some.rtype in (
      so_far.0 ++ text,
      has_written_append _ _ _ _ _ _ so_far.1 (search rules),
      append_assoc so_far.0 text (rtypes_text (rtypes_left c.next.new.self))
          ∙ ap (λ rtypes. so_far.0 ++ rtypes_text rtypes) (sym c.in-Some.ensures.steps) ∙ so_far.2,
    )
