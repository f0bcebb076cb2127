use Rattle.octseq_bgp.proofs.OneCapability as laws
use Rattle.octseq_bgp.proofs.laws.one_capability_value.Goals as goal

pub returns : goal.returns
returns c = laws.one_capability_value
