use Rattle.octseq_bgp.proofs.Values as laws
use Rattle.octseq_bgp.proofs.laws.one_value.Goals as goal

pub returns : goal.returns
returns c = laws.one_value
