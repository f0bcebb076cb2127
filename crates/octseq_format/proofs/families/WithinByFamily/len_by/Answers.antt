use Rattle.std.proofs.Common.{◌∙◌, sym}
use Rattle.octseq_format.proofs.families.WithinByFamily.len_by.Goals as goal

pub returns-then-is_on-clause-fit : goal.returns-then-is_on-clause-fit
returns-then-is_on-clause-fit g c = rw (sym c.is_on.ensures ∙ c.if-is_on.true) c.len_by.ensures.fit

pub returns-then-is_on-clause-none : goal.returns-then-is_on-clause-none
returns-then-is_on-clause-none g c = rw (sym c.is_on.ensures ∙ c.if-is_on.true) c.len_by.ensures.none

pub returns-else-is_on-clause-fit : goal.returns-else-is_on-clause-fit
returns-else-is_on-clause-fit g c = rw (sym c.is_on.ensures ∙ c.if-is_on.false) c.len_by-else-is_on.ensures.fit

pub returns-else-is_on-clause-none : goal.returns-else-is_on-clause-none
returns-else-is_on-clause-none g c = rw (sym c.is_on.ensures ∙ c.if-is_on.false) c.len_by-else-is_on.ensures.none
