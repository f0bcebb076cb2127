use Rattle.octseq_bgp.proofs.StopsAtEnd as laws
use Rattle.octseq_bgp.proofs.laws.messages_stop_at_their_end.Goals as goal

pub returns : goal.returns
returns c = laws.message_end
