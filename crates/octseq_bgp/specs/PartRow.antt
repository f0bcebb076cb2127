-- Parts of a value that are written one after another.
use Rattle.std.specs.Prelude.{ℕ, ◌≤◌, List, length}
use Rattle.std.specs.List.{AllByRecursion}
use Rattle.octseq_format.specs.Row.{row_octets}

-- Each fits, and all have at most 65,535 octets, which the length of an attribute can say.
pub record FitRow {S : Type 0} (octets : S → List ℕ) (Fits : S → Type 0) (row : List S) : Type 0 where
  pub each : AllByRecursion Fits row
  pub short : length (row_octets octets row) ≤ 65535

-- The same for one part or more.
pub record FitSome {S : Type 0} (octets : S → List ℕ) (Fits : S → Type 0) (row : List S) : Type 0 where
  pub some : 1 ≤ length row
  pub all : FitRow octets Fits row
