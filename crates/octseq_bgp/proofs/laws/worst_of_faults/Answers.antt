use Rattle.octseq_bgp.proofs.FaultsAre as laws
use Rattle.octseq_bgp.proofs.laws.worst_of_faults.Goals as goal

pub returns : goal.returns
returns c = laws.handling_is
