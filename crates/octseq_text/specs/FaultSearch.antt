-- The search for the first fault of octets that come in pieces.
use Rattle.std.specs.Prelude.{◌≡◌, ℕ, ◌+◌, List, ◌++◌, length, Option, IfSome, IfNone}
use Rattle.octseq_utf8.specs.Fault.{Fault, IsFault, saturated, fault_after}
use Rattle.octseq_utf8.specs.Text.{IsWellFormed}
use Rattle.octseq_text.specs.Progress.{IsOpenEnd}

-- The fault of octets that come after n others, as a search of all reports it: its place counts those n too, in 64
-- bits.
pub record ReportsAfter (n : ℕ) (octets : List ℕ) (reported : Fault) : Type 0 where
  pub fault : Fault
  pub is_fault : IsFault octets fault
  pub same : reported ≡ fault_after n fault

-- And so it stays, whatever octets follow.
abbrev pub SettlesAfter : ℕ → List ℕ → Fault → Type 0
SettlesAfter n octets reported = (more : List ℕ) → ReportsAfter n (octets ++ more) reported

-- Octets after n others are well formed, up to an open end.
pub record PassesAfter (n : ℕ) (octets : List ℕ) (place : ℕ) (end : List ℕ) : Type 0 where
  pub good : List ℕ
  pub well_formed : IsWellFormed good
  pub whole : octets ≡ good ++ end
  pub open_end : IsOpenEnd end
  pub passed : place ≡ saturated (n + length good)

-- The fault of octets, with its place in 64 bits.
abbrev pub ReportsFault : List ℕ → Fault → Type 0
ReportsFault octets reported = ReportsAfter 0 octets reported

-- What a search in pieces holds: the number of octets it passed, the open end after them, and the fault it found.
pub record Searched : Type 0 where
  pub passed : ℕ
  pub end : List ℕ
  pub fault : Option Fault

-- It has searched octets to their end: it found the fault that they have whatever follows, or passed all of them up to
-- an open end.
pub record HasSearched (held : Searched) (octets : List ℕ) : Type 0 where
  pub met : IfSome held.fault (SettlesAfter 0 octets)
  pub passed : IfNone held.fault (PassesAfter 0 octets held.passed held.end)

-- It has searched some octets to their end.
pub record IsSearch (held : Searched) : Type 0 where
  pub octets : List ℕ
  pub searched : HasSearched held octets
