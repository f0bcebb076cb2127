use Rattle.std.proofs.Common.{refl}
use Rattle.octseq_bgp.proofs.message.notification.NotificationMessage.value.Goals as goal

pub returns-in-Err : goal.returns-in-Err
returns-in-Err g c = (refl, c.in-Err.ensures.malformed refl)
