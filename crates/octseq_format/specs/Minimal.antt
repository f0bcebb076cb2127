-- Numbers in the fewest octets.
use Rattle.std.specs.Prelude.{◌≡◌, ℕ, ◌+◌, ◌≤◌, List, ◌++◌, length, refl}
use Rattle.std.proofs.Common.{ap, sym, subst, arith, length-append}
use Rattle.octseq.specs.Window.{Window, left, past}
use Rattle.octseq.proofs.Codes.{length_rest}
use Rattle.octseq_format.specs.Canonical.{IsCanonical}
use Rattle.octseq_format.specs.Laws.{Relation, NoneAt, IsOne, IsOnward, IsDelimited}

-- A number that fits is there, and takes as many octets as it is written in.
pub record IsMinimal (Is : Relation ℕ) (octets : ℕ → List ℕ) (Fits : ℕ → Type 0) (w : Window) (n : ℕ)
    (v : Window) : Type 0 where
  pub is : Is w n v
  pub fits : Fits n
  pub many : left v + length (octets n) ≡ left w

-- ---- lemmas: proved below this line, so what the words mean is read above it

module _ {Is : Relation ℕ} {octets : ℕ → List ℕ} {Fits : ℕ → Type 0} where
  pub one_minimal : IsOne Is → IsOne (IsMinimal Is octets Fits)
  one_minimal one = record { same = λ w a b u v is other. one.same w a b u v is.is other.is }

  pub onward_minimal : {least : ℕ} → IsOnward least Is → IsOnward least (IsMinimal Is octets Fits)
  onward_minimal onward = record {
    on = λ w a v ordered is. onward.on w a v ordered is.is;
    less = λ w a v is. onward.less w a v is.is;
  }

  pub delimited_minimal : IsDelimited Is (λ n. n) octets Fits
      → IsDelimited (IsMinimal Is octets Fits) (λ n. n) octets Fits
  delimited_minimal delimited = record {
    next = λ w n more fits come.
        let taken = delimited.next w n more fits come in
        let all = ap length come in
        let long = length-append (octets n) more in
        let room = length_rest w in
        record {
          it = n;
          tells = refl;
          is = record {
            is = subst (λ m. Is w m (past (length (octets n)) w)) taken.tells taken.is;
            fits = fits;
            many = omega (arith, all, long, room);
          };
        };
  }

  pub canonical_minimal : IsCanonical Is (λ n. n) octets Fits
      → IsCanonical (IsMinimal Is octets Fits) (λ n. n) octets Fits
  canonical_minimal canonical = record {
    once = canonical.once;
    written = λ w n v sound is. canonical.written w n v sound is.is;
    on = λ w n v sound is. canonical.on w n v sound is.is;
  }

  -- the number that is there doesn't fit
  pub unfit_minimal : IsOne Is → (w v : Window) (n : ℕ) → Is w n v → ¬ Fits n → NoneAt (IsMinimal Is octets Fits) w
  unfit_minimal one w v n is unfit m u other = unfit (subst Fits (one.same w m n u v other.is is).0 other.fits)

  -- it takes another number of octets
  pub longer_minimal : IsOne Is → (w v : Window) (n : ℕ) → Is w n v → ¬ (left v + length (octets n) ≡ left w)
      → NoneAt (IsMinimal Is octets Fits) w
  longer_minimal one w v n is longer m u other =
      let same = one.same w m n u v other.is is in
      longer (subst (λ m. left v + length (octets m) ≡ left w) same.0
      (subst (λ u. left u + length (octets m) ≡ left w) same.1 other.many))
