-- What contracts see of a `MessageReader`.
use Rattle.std.specs.Prelude.{ℕ, List, Bool}
use Rattle.octseq_bgp.specs.declared.message.reader.MessageReader.{MessageReader}
use Rattle.octseq_bgp.specs.declared.session.SessionConfig.{SessionConfig}
use Rattle.octseq_stream.specs.FrameReader as read

-- the underlying reader
abbrev pub reader_of : {R : Type 0} → MessageReader R → R
reader_of messages = read.reader_of messages.frames

-- the session
abbrev pub session_of : {R : Type 0} → MessageReader R → SessionConfig
session_of messages = read.framing_of messages.frames

-- the octets of the last message read
abbrev pub held_octets : {R : Type 0} → MessageReader R → List ℕ
held_octets messages = read.held_octets messages.frames

-- whether the end or an error was reported, so that no further message is read
abbrev pub is_over : {R : Type 0} → MessageReader R → Bool
is_over messages = read.is_over messages.frames
