-- Labels by their offsets.
use Rattle.std.specs.Prelude.{ℕ, List, map, drop, All}
use Rattle.std.specs.Coded.{le_prop}
use Rattle.octseq_dns_compress.specs.Key.{label_at, IsWholeLabel}

-- the octets of the label at an offset, without its length octet
abbrev pub label_of : List ℕ → ℕ → List ℕ
label_of octets at = drop 1 (label_at octets at)

-- the labels at offsets
abbrev pub labels_at : List ℕ → List ℕ → List (List ℕ)
labels_at octets starts = map (label_of octets) starts

-- all of them are whole
abbrev pub AreWhole : List ℕ → List ℕ → Type 0
AreWhole octets starts = All (IsWholeLabel octets) starts

-- ---- lemmas: proved below this line, so what the words mean is read above it

-- it is a fact
pub whole_once : (octets starts : List ℕ) → IsProp (AreWhole octets starts)
whole_once octets starts a b i k d within = le_prop (a k d within) (b k d within) i
