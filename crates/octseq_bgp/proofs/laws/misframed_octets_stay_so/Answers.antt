use Rattle.octseq_bgp.proofs.Streams as laws
use Rattle.octseq_bgp.proofs.laws.misframed_octets_stay_so.Goals as goal

pub returns : goal.returns
returns c = laws.misframed_more
