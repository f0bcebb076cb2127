use Rattle.std.proofs.Common.{◌∙◌, sym}
use Rattle.octseq_format.proofs.families.WithinByFamily.fault_by.Goals as goal

pub fault_by-requires : goal.fault_by-requires
fault_by-requires g c = rw (sym c.is_on.ensures ∙ c.if-is_on.true) at c.requires

pub fault_by-requires-else-is_on : goal.fault_by-requires-else-is_on
fault_by-requires-else-is_on g c = rw (sym c.is_on.ensures ∙ c.if-is_on.false) at c.requires

pub returns-then-is_on : goal.returns-then-is_on
returns-then-is_on g c = rw (sym c.is_on.ensures ∙ c.if-is_on.true) c.fault_by.ensures

pub returns-else-is_on : goal.returns-else-is_on
returns-else-is_on g c = rw (sym c.is_on.ensures ∙ c.if-is_on.false) c.fault_by-else-is_on.ensures
