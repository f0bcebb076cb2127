-- What the replies of a run represent.
use Rattle.std.specs.Prelude.{ℕ, ℤ, Bool, List}
use Rattle.octseq.specs.declared.parse.commands.ParserReply.{ParserReply}
use Rattle.octseq.specs.declared.parse.commands.ParserReply.TheVariants.{Done, Short, Memory, NoParser, Number, Flag}
use Rattle.octseq.specs.declared.parse.commands.ParserReply.TheVariants.{Slice, Range, Parser, Signed, Unsigned}

-- A reply with its numbers, and with the octets of a slice or a range as a list.
pub data WindowReply : Type 0 where
  done short memory no_parser : WindowReply
  number parser unsigned : ℕ → WindowReply
  flag : Bool → WindowReply
  slice range : List ℕ → WindowReply
  signed : ℤ → WindowReply

-- the value of a reply, if `content` gives the octets of a range
abbrev pub shown : {R P : Type 0} → (P → List ℕ) → ParserReply R P → WindowReply
shown content Done = done
shown content Short = short
shown content Memory = memory
shown content NoParser = no_parser
shown content (Number n) = number n
shown content (Flag b) = flag b
shown content (Slice v) = slice v.items
shown content (Range r) = range (content r)
shown content (Parser n) = parser n
shown content (Signed n) = signed n
shown content (Unsigned n) = unsigned n
