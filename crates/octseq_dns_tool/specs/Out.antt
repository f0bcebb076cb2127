-- What the program writes for a command and its input, and how it ends.
use Rattle.std.specs.Prelude.{ℕ, List, codes}
use Rattle.octseq.specs.Part.{part_of}
use Rattle.octseq_dns.specs.Frames.{FitsStream}
use Rattle.octseq_dns_tool.specs.Composed.{IsTextPiece}
use Rattle.octseq_dns_tool.specs.Shown.{IsMessagePiece}
use Rattle.octseq_dns_tool.specs.Taken.{IsEnd, IsPiece}
use Rattle.octseq_dns_tool.specs.declared.engine.Command.{Command}
use Rattle.octseq_dns_tool.specs.declared.engine.Command.TheVariants.{Compose, Message, Rewrite, Stream}
use Rattle.octseq_dns_tool.specs.declared.engine.stream.Messages.{Messages}
use Rattle.octseq_dns_tool.specs.declared.engine.stream.Messages.TheVariants.{Shown, Rewritten}
use Rattle.octseq_cli.specs.Frames.{IsStreamOut, IsWholeOut}
use Rattle.octseq_cli.specs.Texts.{IsTextsOut}
use Rattle.octseq_cli.specs.declared.status.Status.{Status}

-- the name of a command
abbrev pub command_name : Command → List ℕ
command_name Message = codes "message"
command_name Stream = codes "stream"
command_name Rewrite = codes "rewrite"
command_name Compose = codes "compose"

-- what is written for a command that takes messages, each preceded by its length in two octets
abbrev pub MessagesOut : Messages → List ℕ → List ℕ → List ℕ → Status → Type 0
MessagesOut c = IsStreamOut FitsStream (part_of 2) (IsPiece c) (IsEnd c)

-- what is written for a command and an input, on standard output and on standard error, and how the program ends
abbrev pub Out : Command → List ℕ → List ℕ → List ℕ → Status → Type 0
Out Message = IsWholeOut (IsMessagePiece 1)
Out Stream = MessagesOut Shown
Out Rewrite = MessagesOut Rewritten
Out Compose = IsTextsOut IsTextPiece
