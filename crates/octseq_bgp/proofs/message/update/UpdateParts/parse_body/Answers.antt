use Rattle.std.proofs.Common.{refl}
use Rattle.octseq_bgp.proofs.message.update.UpdateParts.parse_body.Goals as goal

pub returns-in_err-withdrawn-clause-malformed : goal.returns-in_err-withdrawn-clause-malformed
returns-in_err-withdrawn-clause-malformed g c = λ _. c.in_err-withdrawn.ensures.malformed refl
