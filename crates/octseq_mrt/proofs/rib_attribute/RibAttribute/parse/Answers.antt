use Rattle.std.proofs.Common.{refl}
use Rattle.octseq_mrt.proofs.rib_attribute.RibAttribute.parse.Goals as goal

pub returns-in_err-flags-clause-malformed : goal.returns-in_err-flags-clause-malformed
returns-in_err-flags-clause-malformed g c = λ _ e v is. c.in_err-flags.ensures.malformed refl e v is
