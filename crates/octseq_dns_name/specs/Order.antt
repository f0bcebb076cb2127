-- How names compare. ASCII case is ignored: RFC 4343. The order is the canonical one: RFC 4034, 6.1.
use Rattle.std.specs.Prelude.{ℕ, Bool, nat_eq, List, [], ◌++◌, map, reverse}
use Rattle.std.specs.Char.{to_ascii_lowercase}
use Rattle.std.specs.Cmp.Lexicographic.{pointwise, slice_cmp}
use Rattle.std.specs.Hash as fed
use Rattle.std.specs.Hash.{HashWrites}
use Rattle.std.specs.List.{flat_map}
use Rattle.std.specs.declared.cmp.Ordering.{Ordering}
use Rattle.std.specs.Ordering.{nat_cmp, on}

-- a label in lower case
abbrev pub lower_label : List ℕ → List ℕ
lower_label = map to_ascii_lowercase

-- each label of a name in lower case
abbrev pub lower_labels : List (List ℕ) → List (List ℕ)
lower_labels = map lower_label

-- and from the last label to the first
abbrev pub canonical : List (List ℕ) → List (List ℕ)
canonical labels = reverse (lower_labels labels)

-- whether two labels are equal, and two names
abbrev pub label_eq : List ℕ → List ℕ → Bool
label_eq = on lower_label (pointwise nat_eq)

abbrev pub name_eq : List (List ℕ) → List (List ℕ) → Bool
name_eq = on lower_labels (pointwise (pointwise nat_eq))

-- Labels are ordered by their octets, and names by their labels from the last one on: the first two that differ decide,
-- and a list comes before a longer one that begins with it.
abbrev pub label_cmp : List ℕ → List ℕ → Ordering
label_cmp = on lower_label (slice_cmp nat_cmp)

abbrev pub name_cmp : List (List ℕ) → List (List ℕ) → Ordering
name_cmp = on canonical (slice_cmp (slice_cmp nat_cmp))

-- A label is hashed as a slice of its octets in lower case, and a name as its labels, with an empty one for the root.
abbrev pub label_writes : List ℕ → HashWrites
label_writes label = fed.slice fed.u8 (lower_label label)

abbrev pub name_writes : List (List ℕ) → HashWrites
name_writes labels = flat_map label_writes labels ++ label_writes []
