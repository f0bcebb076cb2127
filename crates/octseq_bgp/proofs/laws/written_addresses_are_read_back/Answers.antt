use Rattle.octseq_bgp.proofs.Kept.{address_kept}
use Rattle.octseq_bgp.proofs.laws.written_addresses_are_read_back.Goals as goal

pub returns : goal.returns
returns c = address_kept
