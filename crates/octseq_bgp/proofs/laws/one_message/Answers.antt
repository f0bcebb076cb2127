use Rattle.octseq_bgp.proofs.OneMessage as laws
use Rattle.octseq_bgp.proofs.laws.one_message.Goals as goal

pub returns : goal.returns
returns c = laws.one_message
