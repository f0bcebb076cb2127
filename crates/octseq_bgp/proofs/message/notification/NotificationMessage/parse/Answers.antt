use Rattle.std.proofs.Common.{refl}
use Rattle.octseq_bgp.proofs.message.notification.NotificationMessage.parse.Goals as goal

pub returns-in_err-code-clause-malformed : goal.returns-in_err-code-clause-malformed
returns-in_err-code-clause-malformed g c = λ _. c.in_err-code.ensures.malformed refl
