use Rattle.octseq_format.proofs.Copies.{slice_octets}
use Rattle.octseq_format.proofs.laws.are_octets.Goals as goal

pub returns : goal.returns
returns c = slice_octets c.args.octets.now c.type_inv.octets
