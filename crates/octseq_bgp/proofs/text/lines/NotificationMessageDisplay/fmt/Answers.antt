use Rattle.std.proofs.Common.{codes, refl}
use Rattle.std.specs.Fmt.{HasWritten, IsPlainFormatter}
use Rattle.octseq.specs.Parser.{window}
use Rattle.octseq_bgp.specs.MessageText.{line, notification_text, IsNotificationText}
use Rattle.octseq_bgp.specs.NotificationOf.{notification_data_of}
use Rattle.octseq_bgp.proofs.Shown.{shown_of}
use Rattle.octseq_bgp.proofs.text.lines.NotificationMessageDisplay.fmt.Goals as goal

pub returns : goal.returns
returns g c = record {
  shown =
      let n = c.args.self.now in
      let it = notification_data_of c.value-value.result in
      shown_of c.write_notification.result (IsNotificationText (n.code, (n.subcode, window n.«data»)))
      (IsPlainFormatter c.args.f.now)
      (λ lines. HasWritten g.W.Write.write_str_gives c.args.f.now lines c.write_notification.new.f)
      (line (codes "notification") (notification_text n.code n.subcode it)) (it, c.value-value.ensures, refl)
      c.write_notification.ensures;
}
