-- A run of a program: what a word asks for, what is made of the whole input, and what is written.
use Rattle.std.specs.Prelude.{◌≡◌, ◌⊎◌, ℕ, List, [], ◌++◌, codes, Bool, true, false, IsTrue, Option, Some, None, IfSome}
use Rattle.std.specs.Io.KnownBytes.{Appends, Consumes, IsAtEnd}
use Rattle.octseq.specs.Parts.{StartsWith}
use Rattle.octseq_cli.specs.declared.request.Request.{Request}
use Rattle.octseq_cli.specs.declared.request.Request.TheVariants.{Command, Help, Version, Unknown}
use Rattle.octseq_cli.specs.declared.engine.TheConstants.{VERSION}
use Rattle.octseq_cli.specs.declared.status.Status.{Status}
use Rattle.octseq_cli.specs.declared.status.Status.TheVariants.{Fine, Usage}

-- the word is the name of a command
abbrev pub IsCommand : {C : Type 0} → (C → List ℕ) → List ℕ → Type 0
IsCommand {C} name_of word = (command : C) × (word ≡ name_of command)

-- the command of that name, or none if there is none
abbrev pub IsNamed : {C : Type 0} → (C → List ℕ) → List ℕ → Option C → Type 0
IsNamed name_of word (Some command) = word ≡ name_of command
IsNamed name_of word None = ¬ IsCommand name_of word

-- the words for help, and that for the version
abbrev pub IsHelpWord : List ℕ → Type 0
IsHelpWord word = (word ≡ codes "--help") ⊎ (word ≡ codes "-h")

abbrev pub IsVersionWord : List ℕ → Type 0
IsVersionWord word = word ≡ codes "--version"

-- the words that no other word may follow
abbrev pub StandsAlone : List ℕ → Type 0
StandsAlone word = IsHelpWord word ⊎ IsVersionWord word

-- what the word asks for: a command, or help, or the version, or nothing that is known
abbrev pub IsRequest : {C : Type 0} → (C → List ℕ) → List ℕ → Request C → Type 0
IsRequest name_of word (Command command) = word ≡ name_of command
IsRequest name_of word Help = ¬ IsCommand name_of word × IsHelpWord word
IsRequest name_of word Version = ¬ IsCommand name_of word × IsVersionWord word
IsRequest name_of word Unknown = ¬ IsCommand name_of word × ¬ StandsAlone word

-- What a program says of itself: its help text, and the end of the line about an unknown word, which says how it is
-- used.
pub record ProgramHelp : Type 0 where
  pub help : List ℕ
  pub usage : List ℕ

-- the line about an unknown word
abbrev pub unknown_line : List ℕ → List ℕ → List ℕ
unknown_line usage word = codes "no command '" ++ (word ++ (codes "'; " ++ usage))

-- what is written, on standard output and on standard error, and how the program ends: `out` of a command and its
-- input, or the help text, or the version, or the line about an unknown word
abbrev pub Writes : {C : Type 0} → (C → List ℕ → List ℕ → List ℕ → Status → Type 0) → ProgramHelp → List ℕ → Request C
    → List ℕ → List ℕ → List ℕ → Status → Type 0
Writes out said word (Command command) input output errors status = out command input output errors status
Writes out said word Help input output errors status = (output ≡ said.help) × (errors ≡ []) × (status ≡ Fine)
Writes out said word Version input output errors status = (output ≡ VERSION.now) × (errors ≡ []) × (status ≡ Fine)
Writes out said word Unknown input output errors status =
    (output ≡ []) × (errors ≡ unknown_line said.usage word) × (status ≡ Usage)

-- A complete run: what the reader had left, and what the two writers held before and after. The known octets of the
-- reader are the whole input.
pub record Answers (out : List ℕ → List ℕ → List ℕ → Status → Type 0)
    (given before after noted_before noted_after : Option (List ℕ)) (status : Status) : Type 0 where
  pub input : List ℕ
  pub whole : IfSome given (λ octets. input ≡ octets)
  pub output : List ℕ
  pub errors : List ℕ
  pub answered : out input output errors status
  pub written : Appends before after output
  pub noted : Appends noted_before noted_after errors

-- A run that failed: what was read, whether the end was reached, and what was written to both writers. For every input
-- that begins with what was read, or equals it if the end was reached, fronts of its output were written.
pub record BreaksOff (out : List ℕ → List ℕ → List ℕ → Status → Type 0)
    (given left before after noted_before noted_after : Option (List ℕ)) : Type 0 where
  pub read : List ℕ
  pub consumed : Consumes given left read
  pub is_end : Bool
  pub ended : IsTrue is_end → IsAtEnd left
  pub output : List ℕ
  pub errors : List ℕ
  pub written : Appends before after output
  pub noted : Appends noted_before noted_after errors
  pub fronts : (more all notes : List ℕ) (status : Status) → (IsTrue is_end → more ≡ [])
      → out (read ++ more) all notes status → StartsWith output all × StartsWith errors notes

-- A part of octets that were to be written: all of them, or a front.
abbrev pub IsPartWritten : Bool → List ℕ → List ℕ → Type 0
IsPartWritten true part all = part ≡ all
IsPartWritten false part all = StartsWith part all

-- A run that wrote its whole output, but only a front of its notes.
pub record Unnoted (out : List ℕ → List ℕ → List ℕ → Status → Type 0)
    (given left before after noted_before noted_after : Option (List ℕ)) : Type 0 where
  pub input : List ℕ
  pub whole : IfSome given (λ octets. input ≡ octets)
  pub ended : IsAtEnd left
  pub output : List ℕ
  pub errors : List ℕ
  pub status : Status
  pub answered : out input output errors status
  pub written : Appends before after output
  pub part : List ℕ
  pub is_front : StartsWith part errors
  pub noted : Appends noted_before noted_after part

-- A complete run for a word.
pub record Ran {C : Type 0} (name_of : C → List ℕ) (said : ProgramHelp)
    (out : C → List ℕ → List ℕ → List ℕ → Status → Type 0) (word : List ℕ)
    (given before after noted_before noted_after : Option (List ℕ)) (status : Status) : Type 0 where
  pub request : Request C
  pub is_request : IsRequest name_of word request
  pub answers : Answers (Writes out said word request) given before after noted_before noted_after status

-- A run for a word, which failed.
pub record Broke {C : Type 0} (name_of : C → List ℕ) (said : ProgramHelp)
    (out : C → List ℕ → List ℕ → List ℕ → Status → Type 0) (word : List ℕ)
    (given left before after noted_before noted_after : Option (List ℕ)) : Type 0 where
  pub request : Request C
  pub is_request : IsRequest name_of word request
  pub breaks_off : BreaksOff (Writes out said word request) given left before after noted_before noted_after
