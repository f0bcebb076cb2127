use Rattle.octseq_mrt.proofs.reader.RecordReader.read_next.Goals as goal

pub returns-clause-short : goal.returns-clause-short
returns-clause-short g c = λ short.
    let read = c.read_next.ensures.short short in (read.0, (read.1.0, read.1.2), read.2, read.3)
