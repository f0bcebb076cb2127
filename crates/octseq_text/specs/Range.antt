-- The range of a list that a pair of bounds names. All bounds are natural numbers, so none is too great to represent.
use Rattle.std.specs.Prelude.{ℕ, ◌+◌, ◌≤◌, List, slice_range, length}
use Rattle.std.specs.declared.ops.Bound.{Bound}
use Rattle.std.specs.declared.ops.Bound.TheVariants.{Unbounded, Included, Excluded}

-- where the range starts
abbrev pub start_of : Bound ℕ → ℕ
start_of Unbounded = 0
start_of (Included n) = n
start_of (Excluded n) = n + 1

-- where it ends in a list of this length
abbrev pub end_of : ℕ → Bound ℕ → ℕ
end_of len Unbounded = len
end_of len (Included n) = n + 1
end_of len (Excluded n) = n

-- the range exists in a list of this length
abbrev pub RangeExists : ℕ → Bound ℕ × Bound ℕ → Type 0
RangeExists len bounds = (start_of bounds.0 ≤ end_of len bounds.1) × (end_of len bounds.1 ≤ len)

-- the octets of the range
abbrev pub range_of : List ℕ → Bound ℕ × Bound ℕ → List ℕ
range_of octets bounds = slice_range octets (start_of bounds.0) (end_of (length octets) bounds.1)
