use Rattle.octseq_text.proofs.Boundaries.{well_formed-cut, cuts_to}
use Rattle.octseq_text.proofs.str.builder.StrBuilder.truncate.Goals as goal

pub invariant_of-self : goal.invariant_of-self
invariant_of-self g c =
    rw c.truncate.ensures.content (well_formed-cut _ c.self.invariant _ (rw c.self.view_is c.requires))

pub returns-clause-step : goal.returns-clause-step
returns-clause-step g c =
    rw (← c.self.view_is) (cuts_to _ _ _ c.truncate.ensures.content c.self.invariant (rw c.self.view_is c.requires))
