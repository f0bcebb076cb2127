-- What the program writes for a command and its input, and how it ends.
use Rattle.std.specs.Prelude.{◌≡◌, ℕ, ◌<◌, ◌≤◌, List, [], ◌∷◌, ◌++◌, length, codes}
use Rattle.std.specs.Prelude.{Option, Some, None, Result, Ok, Err, IfSome}
use Rattle.std.specs.Fmt.{decimal}
use Rattle.std.specs.Io.KnownBytes.{Appends, Consumes}
use Rattle.std.specs.List.{flat_map}
use Rattle.octseq.specs.Fault.{Fault, IsFault, fault_text}
use Rattle.octseq.specs.Parts.{Part, Splits, StartsWith, text}
use Rattle.octseq.specs.Text.{IsWellFormed}
use Rattle.octseq_tool.specs.declared.engine.Command.{Command}
use Rattle.octseq_tool.specs.declared.engine.Command.TheVariants.{Check, Lossy, Lossy64, Records}
use Rattle.octseq_tool.specs.declared.engine.Status.{Status}
use Rattle.octseq_tool.specs.declared.engine.Status.TheVariants.{Fine, Refused, Usage}
use Rattle.octseq_tool.specs.declared.engine.ToolFault.{ToolFault}
use Rattle.octseq_tool.specs.declared.engine.ToolFault.TheVariants.{Memory, Read, Write}

-- the name of a command
abbrev pub command_name : Command → List ℕ
command_name Check = codes "check"
command_name Lossy = codes "lossy"
command_name Lossy64 = codes "lossy64"
command_name Records = codes "records"

-- the word is the name of a command
abbrev pub IsCommand : List ℕ → Type 0
IsCommand word = (command : Command) × (word ≡ command_name command)

-- the command of that name, or none if there is none
abbrev pub IsNamed : List ℕ → Option Command → Type 0
IsNamed word (Some command) = word ≡ command_name command
IsNamed word None = ¬ IsCommand word

-- the parts of the input have this text
abbrev pub HasText : List ℕ → List ℕ → Type 0
HasText input lossy = (parts : List Part) × Splits input parts × (lossy ≡ text parts)

-- records: parts one after another, each after its length
abbrev pub records_of : List (List ℕ) → List ℕ
records_of parts = flat_map (λ part. length part ∷ part) parts

-- octets that begin with no whole record: fewer octets follow the first one than it says
abbrev pub IsCutRecord : List ℕ → Type 0
IsCutRecord [] = ⊥
IsCutRecord (n ∷ octets) = length octets < n

-- a line for each part: its lossy text, and a newline
abbrev pub HasLines : List (List ℕ) → List ℕ → Type 0
HasLines [] lines = lines ≡ []
HasLines (part ∷ parts) lines =
    (line : List ℕ) × (more : List ℕ) × HasText part line × HasLines parts more × (lines ≡ line ++ codes "\n" ++ more)

-- what is written for a command, or for a word that names none, and an input, and how the program ends
abbrev pub Out : Option Command → List ℕ → List ℕ → Status → Type 0
Out (Some Check) input output Fine =
    IsWellFormed input × (output ≡ codes "well formed: " ++ decimal (length input) ++ codes " octets\n")
Out (Some Check) input output Refused =
    (fault : Fault) × IsFault input fault × (output ≡ fault_text fault ++ codes "\n")
Out (Some Lossy) input output Fine = HasText input output
Out (Some Lossy64) input output Fine = HasText input output × (length output ≤ 64)
Out (Some Lossy64) input output Refused =
    (lossy : List ℕ) × HasText input lossy × (64 < length lossy) × (output ≡ codes "buffer size exceeded\n")
Out (Some Records) input output Fine = (parts : List (List ℕ)) × (input ≡ records_of parts) × HasLines parts output
Out (Some Records) input output Refused = (parts : List (List ℕ)) × (rest : List ℕ) × (lines : List ℕ)
    × (input ≡ records_of parts ++ rest) × IsCutRecord rest × HasLines parts lines
    × (output ≡ lines ++ codes "unexpected end of input\n")
Out None input output Usage = output ≡ codes "usage: octseq_tool check|lossy|lossy64|records\n"
Out _ input output _ = ⊥

-- A command made this of all that a reader had left.
pub record Makes (command : Command) (given left : Option (List ℕ)) (output : List ℕ) (status : Status) : Type 0 where
  pub input : List ℕ
  pub consumed : Consumes given left input
  pub made : Out (Some command) input output status

-- A complete run: the word, what the reader had left, and what the writer held before and after. The known octets of
-- the reader are the whole input.
pub record Ran (word : List ℕ) (given before after : Option (List ℕ)) (status : Status) : Type 0 where
  pub command : Option Command
  pub input : List ℕ
  pub output : List ℕ
  pub named : IsNamed word command
  pub whole : IfSome given (λ octets. input ≡ octets)
  pub made : Out command input output status
  pub written : Appends before after output

-- A run that ended with a failed write: what was written is a front of what the complete run writes.
pub record Broke (word : List ℕ) (given before after : Option (List ℕ)) : Type 0 where
  pub command : Option Command
  pub input : List ℕ
  pub output : List ℕ
  pub status : Status
  pub front : List ℕ
  pub named : IsNamed word command
  pub whole : IfSome given (λ octets. input ≡ octets)
  pub made : Out command input output status
  pub begins : StartsWith front output
  pub written : Appends before after front

-- the exit status of the process
abbrev pub status_of : Result Status ToolFault → ℕ
status_of (Ok Fine) = 0
status_of (Ok Refused) = 1
status_of (Ok Usage) = 2
status_of (Err Memory) = 3
status_of (Err Read) = 4
status_of (Err Write) = 4
