use Rattle.octseq_bgp.proofs.MessagesBack.{keepalive_read}
use Rattle.octseq_bgp.proofs.laws.keepalives_are_read_back.Goals as goal

pub returns : goal.returns
returns c = keepalive_read
