use Rattle.std.proofs.Common.{refl}
use Rattle.octseq_bgp.proofs.message.notification.NotificationMessage.communication.Goals as goal

pub returns-in_err-text-clause-malformed : goal.returns-in_err-text-clause-malformed
returns-in_err-text-clause-malformed g c = λ _ text is. c.in_err-text.ensures.malformed refl text is.1
