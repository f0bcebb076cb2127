use Rattle.std.proofs.Common.{◌∙◌}
use Rattle.octseq_text.proofs.Order.{text_order}
use Rattle.octseq_text.proofs.str.compare.StrOrd.cmp.Goals as goal

pub returns : goal.returns
returns g c =
    rw (← c.as_slice.ensures.content, ← c.as_slice-2.ensures.content)
    (c.cmp.ensures ∙ text_order _ _ c.as_slice.ensures.well_formed c.as_slice-2.ensures.well_formed)
