use Rattle.octseq_mrt.proofs.reader.read_record.Goals as goal

pub returns-clause-short : goal.returns-clause-short
returns-clause-short g c = λ short.
    let read = c.read_frame.ensures.short short in (read.0, (read.1.0, read.1.2), read.2, read.3)
