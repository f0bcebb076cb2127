use Rattle.std.proofs.Common.{[], ap, length, ◌∙◌, arith}
use Rattle.octseq_bgp.specs.WrittenNotification.{notification_in}
use Rattle.octseq_bgp.proofs.WrittenMessages.{is_written, notification_grows}
use Rattle.octseq_bgp.proofs.message.notification_builder.NotificationBuilder.from_builder.Goals as goal

pub invariant_of-result : goal.invariant_of-result
invariant_of-result g c =
    is_written notification_grows (record { code = c.args.code; subcode = c.args.subcode; «data» = [] }) _ _ tt
    (c.in-Ok.ensures.ok ∙ c.front.ensures) (omega (arith, ap length c.in-Ok.ensures.ok, c.longest-most.ensures.least))
    c.longest-most.ensures.most

pub returns-clause-message : goal.returns-clause-message
returns-clause-message g c = ap notification_in (c.in-Ok.ensures.ok ∙ c.front.ensures) ∙ notification_grows.back _ tt
