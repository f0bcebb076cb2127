use Rattle.octseq_mrt.proofs.text.lines.write_event.Goals as goal

pub returns-in-Message : goal.returns-in-Message
returns-in-Message g c = rw (c.in-Message.is, ← c.peek_all.ensures.content) c.write_octets.ensures
