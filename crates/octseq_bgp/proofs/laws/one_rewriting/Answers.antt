use Rattle.octseq_bgp.proofs.OneRewriting as laws
use Rattle.octseq_bgp.proofs.laws.one_rewriting.Goals as goal

pub returns : goal.returns
returns c = laws.one_rewriting
