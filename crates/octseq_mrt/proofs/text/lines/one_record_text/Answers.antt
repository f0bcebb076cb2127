use Rattle.octseq_mrt.proofs.Texts as laws
use Rattle.octseq_mrt.proofs.text.lines.one_record_text.Goals as goal

pub returns : goal.returns
returns c = laws.one_record_text
