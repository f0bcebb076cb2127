-- A `FrameReader`, as contracts see it.
use Rattle.std.specs.Prelude.{ℕ, List, Bool}
use Rattle.octseq_dns.specs.declared.frames.reader.FrameReader.{FrameReader}
use Rattle.octseq_stream.specs.FrameReader as read

-- what it reads from
abbrev pub reader_of : {R : Type 0} → FrameReader R → R
reader_of it = read.reader_of it.frames

-- the octets of the message that was read last
abbrev pub frame_of : {R : Type 0} → FrameReader R → List ℕ
frame_of it = read.held_octets it.frames

-- whether the end or an error was reported, so that no frame follows
abbrev pub is_over : {R : Type 0} → FrameReader R → Bool
is_over it = read.is_over it.frames
