use Rattle.octseq_bgp.proofs.AnewMessages as laws
use Rattle.octseq_bgp.proofs.laws.rewritten_messages_are_no_longer.Goals as goal

pub returns : goal.returns
returns c = laws.no_longer
