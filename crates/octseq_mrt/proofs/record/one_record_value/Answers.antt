use Rattle.octseq_mrt.proofs.OneRecord as laws
use Rattle.octseq_mrt.proofs.record.one_record_value.Goals as goal

pub returns : goal.returns
returns c = laws.one_record_value
