-- A value and a checksum of its octets.
use Rattle.std.specs.Prelude.{◌≡◌, Bool, ◌&&◌, IsTrue, ℕ, ◌+◌, ◌-◌, ◌%◌, ◌^◌, List, ◌++◌, length, refl}
use Rattle.std.proofs.Common.{sym, ap, ◌∙◌, subst, arith, length-append, append_assoc}
use Rattle.octseq.specs.Window.{Window, next, rest, past}
use Rattle.octseq.proofs.WindowsAfter.{front_comes_next}
use Rattle.octseq_format.specs.Canonical.{IsCanonical, both_ways}
use Rattle.octseq_format.specs.Laws.{Relation, NoneAt, AllHave, IsOne, IsOnward, IsReadBack, IsDelimited, back_of}
use Rattle.octseq_format.specs.Pair.{past_both}
use Rattle.octseq_format.specs.Whole.{octets_taken}

-- the octets from a window's position to a later one's
abbrev pub between : Window → Window → List ℕ
between w u = next (u.position - w.position) w

-- the value, and the number of the checksum of the octets that it takes
abbrev pub IsChecked : {A : Type 0} → (List ℕ → ℕ) → Relation A → Relation ℕ → Relation A
IsChecked sum Is Number w a v = (u : Window) × Is w a u × Number u (sum (between w u)) v

-- the octets of the value, and those of their checksum
abbrev pub checked_octets : {S : Type 0} → (List ℕ → ℕ) → (S → List ℕ) → (ℕ → List ℕ) → S → List ℕ
checked_octets sum octets number said = octets said ++ number (sum (octets said))

-- Every checksum is a number that has octets, as many as `width`.
pub record AreSums (sum : List ℕ → ℕ) (number : ℕ → List ℕ) (Fits : ℕ → Type 0) (width : ℕ) : Type 0 where
  pub fit : (octets : List ℕ) → Fits (sum octets)
  pub long : (octets : List ℕ) → length (number (sum octets)) ≡ width

-- what a checksum is encoded as: its lowest octets, as many as `width`
abbrev pub cut_sum : (List ℕ → ℕ) → ℕ → List ℕ → ℕ
cut_sum sum width octets = sum octets % 256 ^ width

-- ---- lemmas: proved below this line, so what the words mean is read above it

pub sums_cut : (sum : List ℕ → ℕ) {number : ℕ → List ℕ} {Fits : ℕ → Type 0} {width : ℕ}
    → ((n : ℕ) → Fits (n % 256 ^ width)) → AllHave number Fits width → AreSums (cut_sum sum width) number Fits width
sums_cut sum {width = width} each long = record {
  fit = λ octets. each (sum octets);
  long = λ octets. long (sum octets % 256 ^ width) (each (sum octets));
}

module _ {A : Type 0} (sum : List ℕ → ℕ) {Is : Relation A} {Number : Relation ℕ} where
  pub one_checked : IsOne Is → IsOne Number → IsOne (IsChecked sum Is Number)
  one_checked one number = record {
    same = λ w a b u v is other.
        let same = one.same w a b is.0 other.0 is.1 other.1 in
        let n = sum (between w is.0) in
        let again : Number is.0 n v =
        subst (λ (x : Window). Number x (sum (between w x)) v) (sym same.1) other.2 in
        (same.0, (number.same is.0 n n u v is.2 again).1);
  }

  -- another number follows the value
  pub other_checksum : IsOne Is → IsOne Number → (w u v : Window) (a : A) (n : ℕ) → Is w a u → Number u n v
      → ¬ (n ≡ sum (between w u)) → NoneAt (IsChecked sum Is Number) w
  other_checksum one number w u v a n is there other b x checked =
      let same = one.same w a b u checked.0 is checked.1 in
      let again : Number u (sum (between w u)) x =
      subst (λ (y : Window). Number y (sum (between w y)) x) (sym same.1) checked.2 in
      other (number.same u n (sum (between w u)) v x there again).0

  pub onward_checked : {least more : ℕ} → IsOnward least Is → IsOnward more Number
      → IsOnward (more + least) (IsChecked sum Is Number)
  onward_checked onward number = record {
    on = λ w a v ordered is.
        let one = onward.on w a is.0 ordered is.1 in
        let two = number.on is.0 (sum (between w is.0)) v (omega (arith, one.1, one.2, one.3)) is.2 in
        (two.0 ∙ one.0, two.1 ∙ one.1, omega (arith, one.2, two.2), two.3);
    less = λ w a v is.
        let one = onward.less w a is.0 is.1 in
        let two = number.less is.0 (sum (between w is.0)) v is.2 in
        omega (arith, one, two);
  }

  module _ {S : Type 0} {says : A → S} {octets : S → List ℕ} {Fits : S → Type 0} {number : ℕ → List ℕ}
      {NumberFits : ℕ → Type 0} where
    pub delimited_checked : {width : ℕ} → AreSums sum number NumberFits width → IsDelimited Is says octets Fits
        → IsDelimited Number (λ n. n) number NumberFits
        → IsDelimited (IsChecked sum Is Number) says (checked_octets sum octets number) Fits
    delimited_checked sums one two = record {
      next = λ w said more fits is.
          let x = octets said in
          let n = length x in
          let y = number (sum x) in
          let apart : rest w ≡ x ++ (y ++ more) = is ∙ append_assoc x y more in
          let come = front_comes_next w x (y ++ more) n apart refl in
          let first = one.next w said (y ++ more) fits apart in
          let second = two.next (past n w) (sum x) more (sums.fit x) come.2 in
          let offset : w.position + n - w.position ≡ n = omega arith in
          let taken : between w (past n w) ≡ x = ap (λ n. next n w) offset ∙ come.1 in
          record {
            it = first.it;
            tells = first.tells;
            is = (
              past n w,
              first.is,
              subst (λ k. Number (past n w) k (past (length (x ++ y)) w)) (second.tells ∙ ap sum (sym taken))
                  (subst (Number (past n w) second.it) (past_both w x y) second.is),
            );
          };
    }

    pub checked_read_back : {width : ℕ} → AreSums sum number NumberFits width → IsDelimited Is says octets Fits
        → IsDelimited Number (λ n. n) number NumberFits
        → IsReadBack (IsChecked sum Is Number) says (checked_octets sum octets number) Fits
    checked_read_back sums one two = back_of (delimited_checked sums one two)

    pub canonical_checked : {least : ℕ} {a b : Bool} → IsOnward least Is → (IsTrue a → IsCanonical Is says octets Fits)
        → (IsTrue b → IsCanonical Number (λ n. n) number NumberFits) → IsTrue (a && b)
        → IsCanonical (IsChecked sum Is Number) says (checked_octets sum octets number) Fits
    canonical_checked onward first second both =
        let ways = both_ways _ _ both in
        let one = first ways.0 in
        let two = second ways.1 in
        record {
          once = one.once;
          written = λ w a v sound is.
              let u = is.0 in
              let x = octets (says a) in
              let there = one.written w a u sound is.1 in
              let ends = two.written u (sum (between w u)) v (one.on w a u sound is.1) is.2 in
              let taken = octets_taken onward one w a u sound is.1 in
              let many : u.position - w.position ≡ length x = omega (arith, taken) in
              let come = front_comes_next w x (rest u) (length x) there.1 refl in
              let same : between w u ≡ x = ap (λ n. next n w) many ∙ come.1 in (
                there.0,
                there.1 ∙ ap (λ o. x ++ o) (ends.1 ∙ ap (λ o. number (sum o) ++ rest v) same)
                    ∙ sym (append_assoc x (number (sum x)) (rest v)),
              );
          on = λ w a v sound is. two.on is.0 (sum (between w is.0)) v (one.on w a is.0 sound is.1) is.2;
        }

-- the number of octets with those of the checksum
pub checked_long : (x y : List ℕ) → length (x ++ y) ≡ length x + length y
checked_long x y = length-append x y
