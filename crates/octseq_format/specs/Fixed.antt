-- Values of a fixed number of octets, whatever they are.
use Rattle.std.specs.Prelude.{◌≡◌, ℕ, ◌%◌, ◌<◌, ◌≤◌, ◌^◌, List, ◌++◌, length, refl}
use Rattle.std.proofs.Common.{sym, ap, ◌∙◌, subst, arith}
use Rattle.std.proofs.Math.Nat.{pow-le-pow_right, one-le-pow}
use Rattle.std.proofs.lemmas.Nat.{mod_below}
use Rattle.octseq.specs.Window.{Window, left, next, rest, past}
use Rattle.octseq.proofs.WindowsAfter.{front_comes_next}
use Rattle.octseq.proofs.Windows.{next_and_rest}
use Rattle.octseq_format.specs.Canonical.{AreOctets, IsCanonical, each_next, many_next, sound_on}
use Rattle.octseq_format.specs.Laws.{Relation, IsOne, IsOnward, IsReadBack, IsDelimited, back_of}

-- the value that the next k octets are read as
abbrev pub IsFixed : {A : Type 0} → ℕ → (List ℕ → A) → Relation A
IsFixed k reading w a v = (k ≤ left w) × (a ≡ reading (next k w)) × (v ≡ past k w)

-- The octets of a value that fits are k, and are read as it. Any k octets are read as a value that fits, in one way,
-- and are its octets.
pub record AreFixed {A : Type 0} (k : ℕ) (reading : List ℕ → A) (octets : A → List ℕ) (Fits : A → Type 0) : Type 0 where
  pub many : (a : A) → Fits a → length (octets a) ≡ k
  pub back : (a : A) → Fits a → reading (octets a) ≡ a
  pub once : (a : A) → IsProp (Fits a)
  pub written : (xs : List ℕ) → length xs ≡ k → AreOctets xs → Fits (reading xs) × (octets (reading xs) ≡ xs)

-- ---- lemmas: proved below this line, so what the words mean is read above it

-- numbers of at most 8 octets fit 64 bits
pub most_fixed : (k : ℕ) → k ≤ 8 → (n : ℕ) → n < 256 ^ k → n < 2 ^ 64
most_fixed k few n fits =
    let most : 256 ^ k ≤ 256 ^ 8 = pow-le-pow_right (omega arith) few in
    omega (arith, most, fits)

-- what is left of a number over a power is below it
pub below_power : (k n : ℕ) → n % 256 ^ k < 256 ^ k
below_power k n = mod_below n (256 ^ k) (one-le-pow k 256 (omega arith))

module _ {A : Type 0} (k : ℕ) (reading : List ℕ → A) where
  pub one_fixed : IsOne (IsFixed k reading)
  one_fixed = record { same = λ w a b u v is other. (is.1 ∙ sym other.1, is.2 ∙ sym other.2) }

  pub onward_fixed : IsOnward k (IsFixed k reading)
  onward_fixed = record {
    on = λ w a v ordered is.
        let position = ap (λ (x : Window). x.position) is.2 in
        let end = ap (λ (x : Window). x.end) is.2 in (
          ap (λ (x : Window). x.octets) is.2,
          end,
          omega (arith, position),
          omega (arith, position, end, is.0, ordered),
        );
    less = λ w a v is. let same = ap left is.2 in omega (arith, same, is.0);
  }

module _ {A : Type 0} {k : ℕ} {reading : List ℕ → A} {octets : A → List ℕ} {Fits : A → Type 0} where
  pub delimited_fixed : AreFixed k reading octets Fits → IsDelimited (IsFixed k reading) (λ a. a) octets Fits
  delimited_fixed are = record {
    next = λ w a more fits is.
        let long = are.many a fits in
        let come = front_comes_next w (octets a) more k is long in
        record {
          it = a;
          tells = refl;
          is = (come.0, sym (are.back a fits) ∙ ap reading (sym come.1), ap (λ n. past n w) long);
        };
  }

  pub fixed_read_back : AreFixed k reading octets Fits → IsReadBack (IsFixed k reading) (λ a. a) octets Fits
  fixed_read_back are = back_of (delimited_fixed are)

  pub canonical_fixed : AreFixed k reading octets Fits → IsCanonical (IsFixed k reading) (λ a. a) octets Fits
  canonical_fixed are = record {
    once = are.once;
    written = λ w a v sound is.
        let reported = are.written (next k w) (many_next k w sound is.0) (each_next k w sound) in (
          subst Fits (sym is.1) reported.0,
          sym (next_and_rest w k is.0) ∙ ap (λ o. o ++ rest (past k w)) (sym reported.1 ∙ ap octets (sym is.1))
              ∙ ap (λ v. octets a ++ rest v) (sym is.2),
        );
    on = sound_on (onward_fixed k reading);
  }
