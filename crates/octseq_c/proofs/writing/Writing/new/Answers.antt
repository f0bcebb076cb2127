use Rattle.octseq_c.proofs.OwnText.{text_empty}
use Rattle.octseq_c.proofs.writing.Writing.new.Goals as goal

pub invariant_of-result-clause-text : goal.invariant_of-result-clause-text
invariant_of-result-clause-text g c = text_empty
