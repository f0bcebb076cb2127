use Rattle.octseq_bgp.proofs.MessagesBack.{route_refresh_read}
use Rattle.octseq_bgp.proofs.laws.route_refreshes_are_read_back.Goals as goal

pub returns : goal.returns
returns c = route_refresh_read
