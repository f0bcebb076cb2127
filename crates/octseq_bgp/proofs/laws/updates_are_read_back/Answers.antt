use Rattle.octseq_bgp.proofs.ReadBack.{update_read_back}
use Rattle.octseq_bgp.proofs.laws.updates_are_read_back.Goals as goal

pub returns : goal.returns
returns c = update_read_back
