use Rattle.octseq_bgp.proofs.ValuesBack.{value_back}
use Rattle.octseq_bgp.proofs.laws.written_values_are_read.Goals as goal

pub returns : goal.returns
returns c = λ session w v fits are end. value_back session w v fits (record { are = are; end = end })
