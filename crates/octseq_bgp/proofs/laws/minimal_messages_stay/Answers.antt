use Rattle.octseq_bgp.proofs.AnewMessages as laws
use Rattle.octseq_bgp.proofs.laws.minimal_messages_stay.Goals as goal

pub returns : goal.returns
returns c = laws.minimal_stays
