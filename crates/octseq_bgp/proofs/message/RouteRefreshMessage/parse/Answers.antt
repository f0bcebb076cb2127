use Rattle.std.proofs.Common.{refl}
use Rattle.octseq_bgp.proofs.message.RouteRefreshMessage.parse.Goals as goal

pub returns-in_err-afi-clause-malformed : goal.returns-in_err-afi-clause-malformed
returns-in_err-afi-clause-malformed g c = λ _. c.in_err-afi.ensures.malformed refl
