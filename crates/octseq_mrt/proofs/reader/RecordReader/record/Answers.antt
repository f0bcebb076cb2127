use Rattle.octseq_mrt.proofs.reader.RecordReader.record.Goals as goal

pub returns-clause-malformed : goal.returns-clause-malformed
returns-clause-malformed g c = rw (← c.octets.ensures.octets) c.parse.ensures.malformed
