-- Numbers that count units.
use Rattle.std.specs.Prelude.{◌≡◌, ℕ, ◌*◌, ◌<◌, ◌^◌, List}
use Rattle.octseq_format.specs.Family.{ByKey, IsWhen}
use Rattle.octseq_format.specs.Laws.{IsReadBack, IsDelimited}

-- A number of units, which a `usize` can hold.
abbrev pub Scales : ℕ → ℕ → Type 0
Scales unit key = (0 < unit) × (key * unit < 2 ^ 64)

-- It fits the number that the units come to, and tells it.
pub record ScaledFit {S : Type 0} (unit : ℕ) (tag : S → ℕ) (Fits : ℕ → S → Type 0) (key : ℕ) (said : S) : Type 0 where
  pub scales : Scales unit key
  pub inside : Fits (key * unit) said
  pub told : tag said ≡ key * unit

-- ---- lemmas: proved below this line, so what the words mean is read above it

module _ {A S : Type 0} (unit : ℕ) (tag : S → ℕ) {Is : ByKey A} {says : A → S} {octets : ℕ → S → List ℕ}
    {Fits : ℕ → S → Type 0} where
  pub scaled_read_back : ((key : ℕ) → IsReadBack (Is key) says (octets key) (Fits key)) → (key : ℕ)
      → IsReadBack (IsWhen (Scales unit) (λ key. Is (key * unit)) key) says (octets (key * unit))
      (ScaledFit unit tag Fits key)
  scaled_read_back one key = record {
    back = λ w said fits is all.
        let taken = (one (key * unit)).back w said fits.inside is all in
        record { it = taken.it; tells = taken.tells; is = (fits.scales, taken.is) };
  }

  pub delimited_scaled : ((key : ℕ) → IsDelimited (Is key) says (octets key) (Fits key)) → (key : ℕ)
      → IsDelimited (IsWhen (Scales unit) (λ key. Is (key * unit)) key) says (octets (key * unit))
      (ScaledFit unit tag Fits key)
  delimited_scaled one key = record {
    next = λ w said more fits is.
        let taken = (one (key * unit)).next w said more fits.inside is in
        record { it = taken.it; tells = taken.tells; is = (fits.scales, taken.is) };
  }
