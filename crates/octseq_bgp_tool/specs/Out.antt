-- What the program writes for a command and its input, and how it ends.
use Rattle.std.specs.Prelude.{ℕ, List}
use Rattle.octseq_bgp.specs.Stream.{IsFramed}
use Rattle.octseq_bgp.specs.declared.session.SessionConfig.{SessionConfig}
use Rattle.octseq_bgp_tool.specs.Records.{IsRecordPiece, IsRecordsEnd}
use Rattle.octseq_bgp_tool.specs.Shown.{IsMessagePiece}
use Rattle.octseq_bgp_tool.specs.Streams.{IsMessagesEnd, IsPiece}
use Rattle.octseq_bgp_tool.specs.Words.{session_of}
use Rattle.octseq_bgp_tool.specs.declared.engine.Command.{Command}
use Rattle.octseq_bgp_tool.specs.declared.engine.Command.TheVariants.{Message, Stream, Rewrite, Mrt, Messages}
use Rattle.octseq_bgp_tool.specs.declared.engine.messages.Output.{Output}
use Rattle.octseq_bgp_tool.specs.declared.engine.messages.Output.TheVariants.{Text, Anew}
use Rattle.octseq_bgp_tool.specs.declared.engine.records.Records.{Records}
use Rattle.octseq_bgp_tool.specs.declared.engine.records.Records.TheVariants.{Shown, Taken}
use Rattle.octseq_mrt.specs.Records.{IsRecordOctets}
use Rattle.octseq_cli.specs.Frames.{IsStreamOut, IsWholeOut}
use Rattle.octseq_cli.specs.declared.status.Status.{Status}

-- the octets of a frame are those of a stream
abbrev pub as_they_are : List ℕ → List ℕ
as_they_are octets = octets

-- what is written for a command that takes messages
abbrev pub MessagesOut : Output → SessionConfig → List ℕ → List ℕ → List ℕ → Status → Type 0
MessagesOut o s = IsStreamOut (IsFramed s) as_they_are (IsPiece o s) (IsMessagesEnd o s)

-- what is written for a command that takes records
abbrev pub RecordsOut : Records → List ℕ → List ℕ → List ℕ → Status → Type 0
RecordsOut c = IsStreamOut IsRecordOctets as_they_are (IsRecordPiece c) (IsRecordsEnd c)

-- what is written for a command and an input, on standard output and on standard error, and how the program ends
abbrev pub Out : Command → List ℕ → List ℕ → List ℕ → Status → Type 0
Out (Message o) = IsWholeOut (IsMessagePiece (session_of o) 1)
Out (Stream o) = MessagesOut Text (session_of o)
Out (Rewrite o) = MessagesOut Anew (session_of o)
Out Mrt = RecordsOut Shown
Out Messages = RecordsOut Taken
