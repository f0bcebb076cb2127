-- How a process ends.
use Rattle.std.specs.Prelude.{ℕ, Result, Ok, Err}
use Rattle.octseq_cli.specs.declared.status.ProgramFault.{ProgramFault}
use Rattle.octseq_cli.specs.declared.status.ProgramFault.TheVariants.{Memory, Read, Write, Note}
use Rattle.octseq_cli.specs.declared.status.Status.{Status}
use Rattle.octseq_cli.specs.declared.status.Status.TheVariants.{Fine, Refused, Usage}

-- the exit status of the process
abbrev pub status_of : Result Status ProgramFault → ℕ
status_of (Ok Fine) = 0
status_of (Ok Refused) = 1
status_of (Ok Usage) = 2
status_of (Err Memory) = 3
status_of (Err Read) = 4
status_of (Err Write) = 4
status_of (Err Note) = 4
