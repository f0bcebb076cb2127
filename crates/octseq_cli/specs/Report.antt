-- What standard error says of a failure.
use Rattle.std.specs.Fmt.{debug_str}
use Rattle.std.specs.Io.KnownBytes.{Appends}
use Rattle.std.specs.declared.io.Error.{Error}
use Rattle.std.specs.Prelude.{◌≡◌, ⊤, ℕ, List, [], ◌++◌, codes, Bool, true, false, Option, Some, None, IfSome}
use Rattle.octseq_cli.specs.Run.{IsPartWritten}
use Rattle.octseq_cli.specs.declared.report.Failure.{Failure}
use Rattle.octseq_cli.specs.declared.report.Failure.TheVariants.{Memory, Open, Read, Write, Closed, Note}
use Rattle.octseq_cli.specs.declared.status.ProgramFault.{ProgramFault}
use Rattle.octseq_cli.specs.declared.status.ProgramFault.TheVariants as faults

-- what the input comes from: a path, as `Debug` writes it, or standard input
abbrev pub IsSource : Option (List ℕ) → List ℕ → Type 0
IsSource (Some path) source = IfSome (debug_str path) (λ quoted. source ≡ quoted)
IsSource None source = source ≡ codes "standard input"

-- the line of an action that failed, with the reason if it is known
abbrev pub IsReasoned : List ℕ → Option (List ℕ) → Option Error → List ℕ → Type 0
IsReasoned action path (Some error) line = (source : List ℕ) × (reason : List ℕ) × IsSource path source
    × (line ≡ codes "cannot " ++ action ++ codes " " ++ source ++ codes ": " ++ reason ++ codes "\n")
IsReasoned action path None line = (source : List ℕ) × IsSource path source
    × (line ≡ codes "cannot " ++ action ++ codes " " ++ source ++ codes "\n")

-- the line of a failure, by the path of the input; none of a pipe that its reader closed
abbrev pub IsFailureLine : Failure → Option (List ℕ) → List ℕ → Type 0
IsFailureLine Memory path line = line ≡ codes "out of memory\n"
IsFailureLine (Open error) path line = IsReasoned (codes "open") path (Some error) line
IsFailureLine (Read reason) path line = IsReasoned (codes "read") path reason line
IsFailureLine Write path line = line ≡ codes "cannot write the output\n"
IsFailureLine Closed path line = line ≡ []
IsFailureLine Note path line = line ≡ codes "cannot write to standard error\n"

-- the fault of a failure
abbrev pub program_fault : Failure → ProgramFault
program_fault Memory = faults.Memory
program_fault (Open error) = faults.Read
program_fault (Read reason) = faults.Read
program_fault Write = faults.Write
program_fault Closed = faults.Write
program_fault Note = faults.Note

-- the failure of a fault, with the error of the last read that failed, and whether the output's reader closed its pipe
abbrev pub failure_of : ProgramFault → Option Error → Bool → Failure
failure_of faults.Memory error is_closed = Memory
failure_of faults.Read error is_closed = Read error
failure_of faults.Write error true = Closed
failure_of faults.Write error false = Write
failure_of faults.Note error is_closed = Note

-- the line has the text of a reason, for which memory is requested
abbrev pub HasReason : Failure → Type 0
HasReason (Open error) = ⊤
HasReason (Read reason) = ⊤
HasReason _ = ⊥

-- the line of a failure was written, or a front of it
abbrev pub IsErrorWritten : Failure → Option (List ℕ) → Bool → Option (List ℕ) → Option (List ℕ) → Type 0
IsErrorWritten failure path is_whole before after = (line : List ℕ) × (part : List ℕ) × IsFailureLine failure path line
    × IsPartWritten is_whole part line × Appends before after part
