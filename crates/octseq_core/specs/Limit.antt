-- What the limit of a type says about a length.
use Rattle.std.specs.Prelude.{ℕ, ◌≤◌, ◌<◌, Option, Some, None}

-- the length is at most the limit; without a limit every length is
abbrev pub IsWithin : Option ℕ → ℕ → Type 0
IsWithin (Some limit) length = length ≤ limit
IsWithin None length = Unit {0}

-- the length is greater than the limit; without a limit none is
abbrev pub ExceedsLimit : Option ℕ → ℕ → Type 0
ExceedsLimit (Some limit) length = limit < length
ExceedsLimit None length = ⊥
