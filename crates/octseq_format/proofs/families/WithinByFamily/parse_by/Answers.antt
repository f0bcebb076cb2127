use Rattle.std.proofs.Common.{◌∙◌, sym}
use Rattle.octseq_format.proofs.families.WithinByFamily.parse_by.Goals as goal

pub returns-then-is_on-clause-malformed : goal.returns-then-is_on-clause-malformed
returns-then-is_on-clause-malformed g c =
    rw (sym c.is_on.ensures ∙ c.if-is_on.true) c.parse_by.ensures.malformed

pub returns-else-is_on-clause-malformed : goal.returns-else-is_on-clause-malformed
returns-else-is_on-clause-malformed g c =
    rw (sym c.is_on.ensures ∙ c.if-is_on.false) c.parse_by-else-is_on.ensures.malformed
