-- What appends octets that are known to fit does.
use Rattle.std.specs.Prelude.{◌≡◌, Bool, true, ℕ, List, ◌++◌, Result, IsErr, OnOk, OnErr}
use Rattle.octseq.specs.Parts.{StartsWith}

-- A call appends the octets. It may be refused only for lack of memory, and then appends none.
pub record AppendsUnlimited {E : Type 0} (asks : Bool) (result : Result (Unit {0}) E)
    (octets old new : List ℕ) : Type 0 where
  pub ok : OnOk result (new ≡ old ++ octets)
  pub err : OnErr result (new ≡ old)
  pub memory : IsErr result → asks ≡ true

-- The same, but a call that is refused may have appended some octets.
pub record AppendsSomeUnlimited {E : Type 0} (asks : Bool) (result : Result (Unit {0}) E)
    (octets old new : List ℕ) : Type 0 where
  pub ok : OnOk result (new ≡ old ++ octets)
  pub front : OnErr result (StartsWith old new)
  pub memory : IsErr result → asks ≡ true
