use Rattle.std.proofs.Common.{[], false, refl, sym, subst}
use Rattle.octseq_bgp_tool.specs.Records.{IsTakenEvent}
use Rattle.octseq_mrt.specs.Parsed.{event_of}
use Rattle.octseq_bgp_tool.proofs.engine.records.taken_event.Goals as goal

pub returns-else-is_message : goal.returns-else-is_message
returns-else-is_message g c =
    let read = rw c.peek_all-octets.ensures.content at c.is_message.ensures in
    let none = rw c.if-is_message.false at read in
    subst (λ e. IsTakenEvent (event_of e) []) (sym c.in-Message.is) (false, none, refl)
