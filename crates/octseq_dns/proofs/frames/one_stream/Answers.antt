use Rattle.octseq_dns.proofs.frames.one_stream.Goals as goal

pub returns : goal.returns
returns c = c.one_stream.ensures (record {})
