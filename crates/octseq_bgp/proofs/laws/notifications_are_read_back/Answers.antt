use Rattle.octseq_bgp.proofs.MessagesBack.{notification_read}
use Rattle.octseq_bgp.proofs.laws.notifications_are_read_back.Goals as goal

pub returns : goal.returns
returns c = notification_read
