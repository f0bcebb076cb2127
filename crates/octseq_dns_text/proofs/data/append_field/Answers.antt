use Rattle.octseq_dns_text.proofs.data.append_field.Goals as goal

pub returns-in-Ok-clause-ok : goal.returns-in-Ok-clause-ok
returns-in-Ok-clause-ok g c =
    (c.in-Some.octets.content, c.in-Some.ensures.some, rw c.as_slice.ensures.content at c.in-Ok.ensures.ok)
