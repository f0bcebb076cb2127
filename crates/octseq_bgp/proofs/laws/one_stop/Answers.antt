use Rattle.octseq_bgp.proofs.Stops as laws
use Rattle.octseq_bgp.proofs.laws.one_stop.Goals as goal

pub returns : goal.returns
returns c = laws.one_stop
