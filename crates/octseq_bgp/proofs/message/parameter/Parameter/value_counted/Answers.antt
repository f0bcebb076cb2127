use Rattle.std.proofs.Common.{refl}
use Rattle.octseq_bgp.proofs.message.parameter.Parameter.value_counted.Goals as goal

pub returns-in-Err-clause-value : goal.returns-in-Err-clause-value
returns-in-Err-clause-value g c = (refl, λ row are. c.in-Err.ensures.malformed refl row are.1)
