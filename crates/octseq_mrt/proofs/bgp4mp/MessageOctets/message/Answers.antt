use Rattle.octseq_mrt.proofs.bgp4mp.MessageOctets.message.Goals as goal

pub returns-clause-malformed : goal.returns-clause-malformed
returns-clause-malformed g c = rw (← c.peek_all.ensures.content) c.parse.ensures.malformed
