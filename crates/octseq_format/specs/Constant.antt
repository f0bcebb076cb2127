-- A fixed number.
use Rattle.std.specs.Prelude.{◌≡◌, ◌≢◌, ℕ, List, length, refl}
use Rattle.std.proofs.Common.{sym, ◌∙◌, subst}
pub use base.Stored.{coded_unit}
use Rattle.octseq.specs.Window.{Window, past}
use Rattle.octseq_format.specs.Canonical.{IsCanonical}
use Rattle.octseq_format.specs.Laws.{Relation, NoneAt, IsOne, IsOnward, IsReadBack, IsDelimited, back_of}

-- the number is n
abbrev pub IsConstant : Relation ℕ → ℕ → Relation (Unit {0})
IsConstant Is n w a v = Is w n v

-- ---- lemmas: proved below this line, so what the words mean is read above it

module _ {Is : Relation ℕ} (n : ℕ) where
  pub one_constant : IsOne Is → IsOne (IsConstant Is n)
  one_constant one = record { same = λ w a b u v is other. (refl, (one.same w n n u v is other).1) }

  -- another number is there
  pub other_constant : IsOne Is → (w u : Window) (number : ℕ) → Is w number u → number ≢ n → NoneAt (IsConstant Is n) w
  other_constant one w u number is other a v exact = other (one.same w number n u v is exact).0

  pub onward_constant : {least : ℕ} → IsOnward least Is → IsOnward least (IsConstant Is n)
  onward_constant onward = record {
    on = λ w a v ordered is. onward.on w n v ordered is;
    less = λ w a v is. onward.less w n v is;
  }

  module _ {octets : ℕ → List ℕ} {Fits : ℕ → Type 0} where
    pub delimited_constant : IsDelimited Is (λ m. m) octets Fits
        → IsDelimited (IsConstant Is n) (λ a. a) (λ _. octets n) (λ _. Fits n)
    delimited_constant delimited = record {
      next = λ w said more fits is.
          let taken = delimited.next w n more fits is in
          let end = past (length (octets n)) w in
          record { it = said; tells = refl; is = subst (λ m. Is w m end) taken.tells taken.is };
    }

    pub constant_read_back : IsDelimited Is (λ m. m) octets Fits
        → IsReadBack (IsConstant Is n) (λ a. a) (λ _. octets n) (λ _. Fits n)
    constant_read_back delimited = back_of (delimited_constant delimited)

    pub canonical_constant : IsCanonical Is (λ m. m) octets Fits
        → IsCanonical (IsConstant Is n) (λ a. a) (λ _. octets n) (λ _. Fits n)
    canonical_constant canonical = record {
      once = λ _. canonical.once n;
      written = λ w a v sound is. canonical.written w n v sound is;
      on = λ w a v sound is. canonical.on w n v sound is;
    }
