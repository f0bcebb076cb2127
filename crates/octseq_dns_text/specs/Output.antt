-- Octets that are appended to a content as far as they fit.
use Rattle.std.specs.Prelude.{◌≡◌, ℕ, ◌+◌, Bool, true, false, Option, Result, Ok, Err, List, ◌++◌, length}
use Rattle.octseq.specs.Limit.{ExceedsLimit}
use Rattle.octseq_dns_text.specs.declared.error.ScanError.{ScanError}

-- The content is what it was at first, and the octets that were made since; or it is full: with these octets it would
-- exceed its limit.
pub record HoldsOutput (limit : Option ℕ) (base made : List ℕ) (full : Bool) (content : List ℕ) : Type 0 where
  pub fits : full ≡ false → content ≡ base ++ made
  pub past : full ≡ true → ExceedsLimit limit (length base + length made)

-- octets are added to those that were made
abbrev pub Adds : Option ℕ → Bool → List ℕ → Bool → List ℕ → List ℕ → Type 0
Adds limit before old after new octets =
    (base made : List ℕ) → HoldsOutput limit base made before old → HoldsOutput limit base (made ++ octets) after new

-- what was there stays
abbrev pub Grows : List ℕ → List ℕ → Type 0
Grows old new = (more : List ℕ) × (new ≡ old ++ more)

-- what is said of a text that was read, if the content was full before its end
abbrev pub unless_full : Bool → Result (Unit {0}) ScanError → Result (Unit {0}) ScanError
unless_full full (Err e) = Err e
unless_full true (Ok value) = Err ScanError.Short
unless_full false (Ok value) = Ok value
