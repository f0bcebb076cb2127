use Rattle.std.proofs.Common.{refl}
use Rattle.octseq_mrt.proofs.rib_attribute.RibAttribute.next_hop_alone.Goals as goal

pub returns-in-Err-clause-none : goal.returns-in-Err-clause-none
returns-in-Err-clause-none g c = λ _ inside is. c.in-Err.ensures.malformed refl inside is.1
