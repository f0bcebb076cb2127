-- What is at the front of octets.
use Rattle.std.specs.Prelude.{ℕ, ◌≤◌, List, length, take, drop, Option, unwrap_or}
use Rattle.octseq_utf8.specs.Encoding.{IsEncoding}
use Rattle.octseq_utf8.specs.Fault.{IsFaultSize}
use Rattle.octseq_utf8.specs.Parts.{IsBadPart}
use Rattle.octseq_utf8.specs.declared.finder.FirstPart.{FirstPart}
use Rattle.octseq_utf8.specs.declared.finder.FirstPart.TheVariants.{Encoding, Bad}

-- the first len octets are the bad part, and `reported` is its size as a fault
pub record IsBadFront (octets : List ℕ) (reported : Option ℕ) (len : ℕ) : Type 0 where
  pub within : len ≤ length octets
  pub few : len ≤ 3
  pub bad : IsBadPart octets (take len octets)
  pub size : IsFaultSize (take len octets) (drop len octets) reported

-- an encoding, or the bad part by its size as a fault
abbrev pub IsAtFront : List ℕ → FirstPart → Type 0
IsAtFront octets (Encoding len) = (len ≤ length octets) × IsEncoding (take len octets)
IsAtFront octets (Bad size) = IsBadFront octets size (unwrap_or size (length octets))
