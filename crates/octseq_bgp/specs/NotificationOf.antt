-- What contracts see of the data of a NOTIFICATION.
use Rattle.octseq.specs.declared.AsOctets.{Ghosts}
use Rattle.octseq.specs.Parser.{window}
use Rattle.octseq_bgp.specs.Notification as said
use Rattle.octseq_bgp.specs.declared.message.notification.NotificationData.{NotificationData}
use Rattle.octseq_bgp.specs.declared.message.notification.NotificationData.TheVariants as kind

abbrev pub notification_data_of : {R : Type 0} {g : Ghosts R} → NotificationData R g → said.NotificationData
notification_data_of (kind.ShutdownCommunication text) = said.NotificationData.shutdown (window text)
notification_data_of (kind.Opaque octets) = said.NotificationData.opaque (window octets)
