use Rattle.std.proofs.Common.{◌∙◌, sym}
use Rattle.octseq_format.proofs.families.WithinByFamily.put_by.Goals as goal

pub put_by-requires-clause-fit : goal.put_by-requires-clause-fit
put_by-requires-clause-fit g c = rw (sym c.is_on.ensures ∙ c.if-is_on.true) at c.requires.fit

pub put_by-requires-else-is_on-clause-fit : goal.put_by-requires-else-is_on-clause-fit
put_by-requires-else-is_on-clause-fit g c = rw (sym c.is_on.ensures ∙ c.if-is_on.false) at c.requires.fit
