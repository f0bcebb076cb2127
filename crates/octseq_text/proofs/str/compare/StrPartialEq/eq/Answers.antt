use Rattle.std.proofs.Common.{◌∙◌}
use Rattle.octseq_text.proofs.Order.{text_equal}
use Rattle.octseq_text.proofs.str.compare.StrPartialEq.eq.Goals as goal

pub returns : goal.returns
returns g c =
    rw (← c.as_slice.ensures.content, ← c.as_slice-2.ensures.content)
    (c.eq.ensures ∙ text_equal _ _ c.as_slice.ensures.well_formed c.as_slice-2.ensures.well_formed)
