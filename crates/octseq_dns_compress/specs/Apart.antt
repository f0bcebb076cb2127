-- Labels that are apart from the two octets before an offset.
use Rattle.std.specs.Prelude.{ℕ, ◌+◌, ◌<◌, ◌≤◌, List, slice_index_or, All}
use Rattle.std.specs.Coded.{le_prop}
use Rattle.octseq_dns_compress.specs.declared.table.Target.{Target}

-- the label of a target ends before the two octets before an offset, or begins after them
abbrev pub IsApart : List ℕ → ℕ → Target → Type 0
IsApart octets place target =
    target.at < place → target.at + (1 + slice_index_or octets target.at 0) + 2 ≤ place

-- the labels of all targets do
abbrev pub AreTargetsApart : List ℕ → ℕ → List Target → Type 0
AreTargetsApart octets place targets = All (IsApart octets place) targets

-- ---- lemmas: proved below this line, so what the words mean is read above it

-- it is a fact
pub apart_once : (octets : List ℕ) (place : ℕ) (targets : List Target) → IsProp (AreTargetsApart octets place targets)
apart_once octets place targets a b i k d within near = le_prop (a k d within near) (b k d within near) i
