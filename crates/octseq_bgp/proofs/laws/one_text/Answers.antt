use Rattle.octseq_bgp.proofs.Texts as laws
use Rattle.octseq_bgp.proofs.laws.one_text.Goals as goal

pub returns : goal.returns
returns c = laws.one_message_text
