-- What contracts see of a `RecordReader`.
use Rattle.std.specs.Prelude.{ℕ, List, Bool}
use Rattle.octseq_mrt.specs.declared.reader.RecordReader.{RecordReader}
use Rattle.octseq_stream.specs.FrameReader as read

-- the underlying reader
abbrev pub reader_of : {R : Type 0} → RecordReader R → R
reader_of records = read.reader_of records.frames

-- the octets of the last record read
abbrev pub held_octets : {R : Type 0} → RecordReader R → List ℕ
held_octets records = read.held_octets records.frames

-- whether the end or an error was reported, so that no further record is read
abbrev pub is_over : {R : Type 0} → RecordReader R → Bool
is_over records = read.is_over records.frames
