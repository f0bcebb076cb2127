use Rattle.octseq_bgp.proofs.Filling as laws
use Rattle.octseq_bgp.proofs.laws.prefixes_add_their_octets.Goals as goal

pub returns-clause-withdrawn : goal.returns-clause-withdrawn
returns-clause-withdrawn c = laws.withdrawn_long

pub returns-clause-announced : goal.returns-clause-announced
returns-clause-announced c = laws.announced_long
