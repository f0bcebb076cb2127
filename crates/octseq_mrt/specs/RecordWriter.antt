-- What contracts see of a `RecordWriter`.
use Rattle.octseq_mrt.specs.declared.writer.RecordWriter.{RecordWriter}

-- the underlying writer
abbrev pub writer_of : {W : Type 0} → RecordWriter W → W
writer_of records = records.writer
