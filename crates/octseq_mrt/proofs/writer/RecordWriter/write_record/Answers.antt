use Rattle.octseq_mrt.proofs.writer.RecordWriter.write_record.Goals as goal

pub returns-clause-front : goal.returns-clause-front
returns-clause-front g c = rw (← c.type_code.ensures, ← c.subtype.ensures) c.write_raw.ensures.front
