-- A number in two parts, and a family for each.
use Rattle.std.specs.Prelude.{◌≡◌, ℕ, ◌/◌, ◌%◌, ◌≤◌, ◌^◌, List}
use Rattle.std.proofs.Common.{div-le_self}
use native.Mathlib.Nat.{mod-le}
use Rattle.octseq_format.specs.Laws.{Relation, IsReadBack, IsDelimited}
use Rattle.octseq_format.specs.Pair.{◌also◌}

-- Both fit, and tell the two parts.
pub record SplitFit {S T : Type 0} (First : S → Type 0) (Second : T → Type 0) (one : S → ℕ) (two : T → ℕ) (m n : ℕ)
    (said : S × T) : Type 0 where
  pub both : (First also Second) said
  pub one_told : one said.0 ≡ m
  pub two_told : two said.1 ≡ n

-- ---- lemmas: proved below this line, so what the words mean is read above it

-- the upper bits of a number, and its lowest ones, are at most the number
pub high_below : (bits n : ℕ) → n / 2 ^ bits ≤ n
high_below bits n = div-le_self n (2 ^ bits)

pub lowest_below : (bits n : ℕ) → n % 2 ^ bits ≤ n
lowest_below bits n = mod-le n (2 ^ bits)

module _ {A S : Type 0} {Is : Relation A} {says : A → S} {octets : S → List ℕ} {Fits Few : S → Type 0} where
  -- what holds of all values holds of some
  pub fewer_read_back : IsReadBack Is says octets Fits → ((said : S) → Few said → Fits said)
      → IsReadBack Is says octets Few
  fewer_read_back one fit = record { back = λ w said few is all. one.back w said (fit said few) is all }

  pub fewer_delimited : IsDelimited Is says octets Fits → ((said : S) → Few said → Fits said)
      → IsDelimited Is says octets Few
  fewer_delimited one fit = record { next = λ w said more few is. one.next w said more (fit said few) is }
