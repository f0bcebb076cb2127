use Rattle.octseq_text.proofs.FaultSearching.{completes}
use Rattle.octseq_text.proofs.utf8.pieces.FaultPieces.fault.Goals as goal

pub returns-clause-none : goal.returns-clause-none
returns-clause-none c = rw (← c.self.view_is) (λ octets s. completes octets _ _ c.self.inside.fault s.passed)
