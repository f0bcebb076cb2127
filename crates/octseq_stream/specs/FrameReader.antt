-- What contracts see of a `FrameReader`.
use Rattle.std.specs.Prelude.{ℕ, List, Bool}
use Rattle.octseq_stream.specs.declared.reader.FrameReader.{FrameReader}

-- the underlying reader
abbrev pub reader_of : {R F : Type 0} → FrameReader R F → R
reader_of frames = frames.reader

-- the framing
abbrev pub framing_of : {R F : Type 0} → FrameReader R F → F
framing_of frames = frames.framing

-- the octets that the last frame holds
abbrev pub held_octets : {R F : Type 0} → FrameReader R F → List ℕ
held_octets frames = frames.octets.items

-- whether the end or an error was reported, so that no further frame is read
abbrev pub is_over : {R F : Type 0} → FrameReader R F → Bool
is_over frames = frames.is_over
