use Rattle.octseq_mrt.proofs.Apart as laws
use Rattle.octseq_mrt.proofs.rib_attribute.next_hops_are_apart.Goals as goal

pub returns : goal.returns
returns c = laws.apart
