-- Octets that must be zero.
use Rattle.std.specs.Prelude.{◌≡◌, ℕ, ◌+◌, ◌-◌, ◌%◌, ◌≤◌, List, ◌++◌, length, replicate, refl}
use Rattle.std.proofs.Common.{sym, ap, ◌∙◌, subst, arith, length-append, append_assoc}
use Rattle.std.proofs.lemmas.List.{length-replicate}
use Rattle.std.specs.Coded.{Unit-prop}
use Rattle.octseq.specs.Window.{Window, left, next, rest, past}
use Rattle.octseq.proofs.WindowsAfter.{front_comes_next}
use Rattle.octseq.proofs.Windows.{next_and_rest}
use Rattle.octseq_format.specs.Canonical.{IsCanonical, sound_on}
use Rattle.octseq_format.specs.Laws.{Relation, NoneAt, IsOne, IsOnward, IsReadBack, IsDelimited, back_of}
use Rattle.octseq_format.specs.Pair.{past_both}
use Rattle.octseq_format.specs.Whole.{octets_taken}

-- the next k octets are zero
abbrev pub IsZeros : ℕ → Relation (Unit {0})
IsZeros k w a v = (k ≤ left w) × (next k w ≡ replicate k 0) × (v ≡ past k w)

-- how many octets there are after n octets, up to a multiple of k; none if k is 0
abbrev pub padding : ℕ → ℕ → ℕ
padding k n = (k - n % k) % k

-- the value, and zero octets up to a multiple of k, counted from its first octet
abbrev pub IsPadded : {A : Type 0} → ℕ → Relation A → Relation A
IsPadded k Is w a v = (u : Window) × Is w a u × IsZeros (padding k (u.position - w.position)) u tt v

-- the octets of the value, and zero octets up to a multiple of k
abbrev pub padded_octets : {S : Type 0} → ℕ → (S → List ℕ) → S → List ℕ
padded_octets k octets said = octets said ++ replicate (padding k (length (octets said))) 0

-- ---- lemmas: proved below this line, so what the words mean is read above it

-- there are k of k zero octets
pub zeros_long : (k : ℕ) → length {A = ℕ} (replicate k 0) ≡ k
zeros_long k = length-replicate k 0

-- the number of octets with the zero octets after them
pub padded_long : (x : List ℕ) (k : ℕ) → length (x ++ replicate k 0) ≡ length x + k
padded_long x k = length-append x (replicate k 0) ∙ ap (λ n. length x + n) (zeros_long k)

-- ---- zero octets
pub one_zeros : (k : ℕ) → IsOne (IsZeros k)
one_zeros k = record { same = λ w a b u v is other. (refl, is.2 ∙ sym other.2) }

pub onward_zeros : (k : ℕ) → IsOnward k (IsZeros k)
onward_zeros k = record {
  on = λ w a v ordered is.
      let position = ap (λ (x : Window). x.position) is.2 in
      let end = ap (λ (x : Window). x.end) is.2 in (
        ap (λ (x : Window). x.octets) is.2,
        end,
        omega (arith, position),
        omega (arith, position, end, is.0, ordered),
      );
  less = λ w a v is. let same = ap left is.2 in omega (arith, same, is.0);
}

-- if k zero octets come next, they are there
zeros_next : (k : ℕ) (w : Window) (more : List ℕ) → rest w ≡ replicate k 0 ++ more → IsZeros k w tt (past k w)
zeros_next k w more is =
    let come = front_comes_next w (replicate k 0) more k is (zeros_long k) in
    (come.0, come.1, refl)

-- and where they are, they come next
zeros_come : (k : ℕ) (w v : Window) → IsZeros k w tt v → rest w ≡ replicate k 0 ++ rest v
zeros_come k w v is =
    sym (next_and_rest w k is.0) ∙ ap (λ o. o ++ rest (past k w)) is.1 ∙ ap (λ v. replicate k 0 ++ rest v) (sym is.2)

pub delimited_zeros : (k : ℕ) → IsDelimited (IsZeros k) (λ a. a) (λ _. replicate k 0) (λ _. Unit {0})
delimited_zeros k = record {
  next = λ w said more fits is. record {
    it = said;
    tells = refl;
    is = subst (λ n. IsZeros k w tt (past n w)) (sym (zeros_long k)) (zeros_next k w more is);
  };
}

pub zeros_read_back : (k : ℕ) → IsReadBack (IsZeros k) (λ a. a) (λ _. replicate k 0) (λ _. Unit {0})
zeros_read_back k = back_of (delimited_zeros k)

pub canonical_zeros : (k : ℕ) → IsCanonical (IsZeros k) (λ a. a) (λ _. replicate k 0) (λ _. Unit {0})
canonical_zeros k = record {
  once = λ _. Unit-prop;
  written = λ w a v sound is. (tt, zeros_come k w v is);
  on = sound_on (onward_zeros k);
}

-- ---- a value and zero octets
module _ {A : Type 0} (k : ℕ) {Is : Relation A} where
  pub one_padded : IsOne Is → IsOne (IsPadded k Is)
  one_padded one = record {
    same = λ w a b u v is other.
        let same = one.same w a b is.0 other.0 is.1 other.1 in (
          same.0,
          is.2.2 ∙ ap (λ (x : Window). past (padding k (x.position - w.position)) x) same.1 ∙ sym other.2.2,
        );
  }

  -- zero octets don't follow the value
  pub no_padding : IsOne Is → (w u : Window) (a : A) → Is w a u
      → NoneAt (IsZeros (padding k (u.position - w.position))) u → NoneAt (IsPadded k Is) w
  no_padding one w u a is none b v padded =
      let same = one.same w a b u padded.0 is padded.1 in
      none tt v
      (subst (λ (x : Window). IsZeros (padding k (x.position - w.position)) x tt v) (sym same.1) padded.2)

  pub onward_padded : {least : ℕ} → IsOnward least Is → IsOnward least (IsPadded k Is)
  onward_padded onward = record {
    on = λ w a v ordered is.
        let one = onward.on w a is.0 ordered is.1 in
        let two = (onward_zeros (padding k (is.0.position - w.position))).on is.0 tt v
        (omega (arith, one.1, one.2, one.3)) is.2 in
        (two.0 ∙ one.0, two.1 ∙ one.1, omega (arith, one.2, two.2), two.3);
    less = λ w a v is.
        let one = onward.less w a is.0 is.1 in
        let two = (onward_zeros (padding k (is.0.position - w.position))).less is.0 tt v is.2 in
        omega (arith, one, two);
  }

  module _ {S : Type 0} {says : A → S} {octets : S → List ℕ} {Fits : S → Type 0} where
    pub delimited_padded : IsDelimited Is says octets Fits
        → IsDelimited (IsPadded k Is) says (padded_octets k octets) Fits
    delimited_padded one = record {
      next = λ w said more fits is.
          let x = octets said in
          let n = length x in
          let m = padding k n in
          let z : List ℕ = replicate m 0 in
          let apart : rest w ≡ x ++ (z ++ more) = is ∙ append_assoc x z more in
          let come = front_comes_next w x (z ++ more) n apart refl in
          let first = one.next w said (z ++ more) fits apart in
          let zeros = zeros_next m (past n w) more come.2 in
          let long : length z ≡ m = zeros_long m in
          let offset : n ≡ w.position + n - w.position = omega arith in
          let end : past m (past n w) ≡ past (length (x ++ z)) w =
          ap (λ m. past m (past n w)) (sym long) ∙ past_both w x z in
          record {
            it = first.it;
            tells = first.tells;
            is = (
              past n w,
              first.is,
              subst (λ n'. IsZeros (padding k n') (past n w) tt (past (length (x ++ z)) w)) offset
                  (zeros.0, zeros.1, sym end),
            );
          };
    }

    pub padded_read_back : IsDelimited Is says octets Fits
        → IsReadBack (IsPadded k Is) says (padded_octets k octets) Fits
    padded_read_back one = back_of (delimited_padded one)

    pub canonical_padded : {least : ℕ} → IsOnward least Is → IsCanonical Is says octets Fits
        → IsCanonical (IsPadded k Is) says (padded_octets k octets) Fits
    canonical_padded onward canonical = record {
      once = canonical.once;
      written = λ w a v sound is.
          let u = is.0 in
          let x = octets (says a) in
          let there = canonical.written w a u sound is.1 in
          let taken = octets_taken onward canonical w a u sound is.1 in
          let many : u.position - w.position ≡ length x = omega (arith, taken) in
          let m = u.position - w.position in (
            there.0,
            there.1 ∙ ap (λ o. x ++ o) (zeros_come (padding k m) u v is.2)
                ∙ sym (append_assoc x (replicate (padding k m) 0) (rest v))
                ∙ ap (λ n. (x ++ replicate (padding k n) 0) ++ rest v) many,
          );
      on = sound_on (onward_padded onward);
    }
