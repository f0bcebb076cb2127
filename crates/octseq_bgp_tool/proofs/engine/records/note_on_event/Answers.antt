use Rattle.std.proofs.Common.{sym, subst}
use Rattle.std.proofs.lemmas.Result.{IfOk-weaker}
use Rattle.octseq_bgp_tool.specs.Records.{IsEventNote}
use Rattle.octseq_mrt.specs.Parsed.{event_of}
use Rattle.octseq_bgp_tool.proofs.engine.records.note_on_event.Goals as goal

pub returns-in-Message : goal.returns-in-Message
returns-in-Message g c =
    let read = rw c.peek_all-octets.ensures.content at c.is_message-is_fine.ensures in
    let noted = rw c.peek_all-octets.ensures.content at c.note_on.ensures in
    IfOk-weaker c.note_on.result _ _
    (λ note is. subst (λ e. IsEventNote c.args.number (event_of e) note.items) (sym c.in-Message.is)
    (c.is_message-is_fine.result, read, is)) noted
