use Rattle.octseq_bgp.proofs.Streams as laws
use Rattle.octseq_bgp.proofs.laws.messages_are_framed.Goals as goal

pub returns : goal.returns
returns c = laws.framed
