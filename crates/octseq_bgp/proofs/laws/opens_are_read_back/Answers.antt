use Rattle.octseq_bgp.proofs.MessagesBack.{open_read}
use Rattle.octseq_bgp.proofs.laws.opens_are_read_back.Goals as goal

pub returns : goal.returns
returns c = open_read
