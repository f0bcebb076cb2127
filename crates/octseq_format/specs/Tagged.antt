-- A number, followed by what it decides.
use Rattle.std.specs.Prelude.{◌≡◌, Bool, true, false, cond, ◌&&◌, IsTrue, ℕ, ◌+◌, ◌≤◌, List, ◌++◌, length, refl}
use Rattle.std.proofs.Common.{sym, ap, ◌∙◌, subst, arith, length-append, append_assoc}
use Rattle.octseq.specs.Window.{Window, left, past, rest}
use Rattle.octseq.proofs.WindowsAfter.{front_comes_next}
use Rattle.octseq_format.specs.Canonical.{IsCanonical, both_ways}
use Rattle.octseq_format.specs.Family.{ByKey, any_onward}
use Rattle.octseq_format.specs.Laws.{Relation, TakesOctets, IsOne, IsOnward, IsReadBack, IsDelimited}
use Rattle.octseq_format.specs.Pair.{past_both}

-- the number, and what it decides past it
abbrev pub Tagged : {A : Type 0} → Relation ℕ → ByKey A → Relation A
Tagged Number Is w a v = (tag : ℕ) × (u : Window) × Number w tag u × Is tag u a v

-- the octets of the number, followed by those of the value
abbrev pub tagged_octets : {S : Type 0} → (ℕ → List ℕ) → (S → ℕ) → (ℕ → S → List ℕ) → S → List ℕ
tagged_octets number tag octets said = number (tag said) ++ octets (tag said) said

-- It fits after its number, and the number has octets.
pub record TaggedFits {S : Type 0} (Number : ℕ → Type 0) (tag : S → ℕ) (Fits : ℕ → S → Type 0)
    (said : S) : Type 0 where
  pub tag_fits : Number (tag said)
  pub inside : Fits (tag said) said

-- ---- lemmas: proved below this line, so what the words mean is read above it

-- the number of octets with the number before them
pub tagged_long : (x y : List ℕ) → length (x ++ y) ≡ length x + length y
tagged_long x y = length-append x y

-- a value that takes its octets, past those of its number
tagged_taken : {A S : Type 0} {Number : Relation ℕ} {Is : ByKey A} {says : A → S} (w : Window) (said : S) (n : ℕ)
    (x y : List ℕ) → TakesOctets Number (λ n. n) w n (length x)
    → TakesOctets (Is n) says (past (length x) w) said (length y)
    → TakesOctets (Tagged Number Is) says w said (length (x ++ y))
tagged_taken {Is = Is} w said n x y one two = record {
  it = two.it;
  tells = two.tells;
  is = (
    one.it,
    past (length x) w,
    one.is,
    subst (λ k. Is k (past (length x) w) two.it (past (length (x ++ y)) w)) (sym one.tells)
        (subst (Is n (past (length x) w) two.it) (past_both w x y) two.is),
  );
}

tagged_once : {S : Type 0} {NumberFits : ℕ → Type 0} {tag : S → ℕ} {Fits : ℕ → S → Type 0}
    → ((n : ℕ) → IsProp (NumberFits n)) → ((key : ℕ) (said : S) → IsProp (Fits key said)) → (said : S)
    → IsProp (TaggedFits NumberFits tag Fits said)
tagged_once {tag = tag} number once said a b =
    ap (λ fits. record { tag_fits = fits; inside = a.inside }) (number (tag said) a.tag_fits b.tag_fits)
    ∙ ap (λ inside. record { tag_fits = b.tag_fits; inside = inside }) (once (tag said) said a.inside b.inside)

module _ {A : Type 0} {Number : Relation ℕ} {Is : ByKey A} where
  pub one_tagged : IsOne Number → ((key : ℕ) → IsOne (Is key)) → IsOne (Tagged Number Is)
  one_tagged number one = record {
    same = λ w a b u v is other.
        let here = number.same w is.0 other.0 is.1 other.1 is.2 other.2 in
        let again = subst (λ x. Is is.0 x b v) (sym here.1) (subst (λ k. Is k other.1 b v) (sym here.0) other.3) in
        (one is.0).same is.1 a b u v is.3 again;
  }

  pub onward_tagged : {least : ℕ} → IsOnward least Number → ((key : ℕ) → IsOnward 0 (Is key))
      → IsOnward least (Tagged Number Is)
  onward_tagged number onward = record {
    on = λ w a v ordered is.
        let one = number.on w is.0 is.1 ordered is.2 in
        let two = (onward is.0).on is.1 a v (omega (arith, one.1, one.2, one.3)) is.3 in
        (two.0 ∙ one.0, two.1 ∙ one.1, omega (arith, one.2, two.2), two.3);
    less = λ w a v is.
        let one = number.less w is.0 is.1 is.2 in
        let two = (onward is.0).less is.1 a v is.3 in
        omega (arith, one, two);
  }

  module _ {S : Type 0} {says : A → S} {number : ℕ → List ℕ} {NumberFits : ℕ → Type 0} {tag : S → ℕ}
      {octets : ℕ → S → List ℕ} {Fits : ℕ → S → Type 0} where
    pub delimited_tagged : IsDelimited Number (λ n. n) number NumberFits
        → ((key : ℕ) → IsDelimited (Is key) says (octets key) (Fits key))
        → IsDelimited (Tagged Number Is) says (tagged_octets number tag octets) (TaggedFits NumberFits tag Fits)
    delimited_tagged one two = record {
      next = λ w said more fits is.
          let x = number (tag said) in
          let y = octets (tag said) said in
          let apart : rest w ≡ x ++ (y ++ more) = is ∙ append_assoc x y more in
          let come = front_comes_next w x (y ++ more) (length x) apart refl in
          tagged_taken w said (tag said) x y (one.next w (tag said) (y ++ more) fits.tag_fits apart)
          ((two (tag said)).next (past (length x) w) said more fits.inside come.2);
    }

    pub tagged_read_back : IsDelimited Number (λ n. n) number NumberFits
        → ((key : ℕ) → IsReadBack (Is key) says (octets key) (Fits key))
        → IsReadBack (Tagged Number Is) says (tagged_octets number tag octets) (TaggedFits NumberFits tag Fits)
    tagged_read_back one two = record {
      back = λ w said fits is all.
          let x = number (tag said) in
          let y = octets (tag said) said in
          let come = front_comes_next w x y (length x) is refl in
          let long : length (x ++ y) ≡ length x + length y = length-append x y in
          tagged_taken w said (tag said) x y (one.next w (tag said) y fits.tag_fits is)
          ((two (tag said)).back (past (length x) w) said fits.inside come.2 (omega (arith, all, long)));
    }

    pub canonical_tagged : IsCanonical Number (λ n. n) number NumberFits
        → ((key : ℕ) → IsCanonical (Is key) says (octets key) (Fits key))
        → ((key : ℕ) (said : S) → Fits key said → tag said ≡ key)
        → IsCanonical (Tagged Number Is) says (tagged_octets number tag octets) (TaggedFits NumberFits tag Fits)
    canonical_tagged one family told = record {
      once = tagged_once one.once (λ key. (family key).once);
      written = λ w a v sound is.
          let t = is.0 in
          let head = one.written w t is.1 sound is.2 in
          let body = (family t).written is.1 a v (one.on w t is.1 sound is.2) is.3 in
          let same : tag (says a) ≡ t = told t (says a) body.0 in (
            record {
              tag_fits = subst NumberFits (sym same) head.0;
              inside = subst (λ k. Fits k (says a)) (sym same) body.0;
            },
            head.1 ∙ ap (λ o. number t ++ o) body.1 ∙ sym (append_assoc (number t) (octets t (says a)) (rest v))
                ∙ ap (λ k. (number k ++ octets k (says a)) ++ rest v) (sym same),
          );
      on = λ w a v sound is. (family is.0).on is.1 a v (one.on w is.0 is.1 sound is.2) is.3;
    }

    pub canonical_told : {a b : Bool} → (IsTrue a → IsCanonical Number (λ n. n) number NumberFits)
        → (IsTrue b → (key : ℕ) → IsCanonical (Is key) says (octets key) (Fits key))
        → (IsTrue b → (key : ℕ) (said : S) → Fits key said → tag said ≡ key) → IsTrue (a && b)
        → IsCanonical (Tagged Number Is) says (tagged_octets number tag octets) (TaggedFits NumberFits tag Fits)
    canonical_told one family told both =
        let ways = both_ways _ _ both in
        canonical_tagged (one ways.0) (family ways.1) (told ways.1)

-- ---- one of two relations, by a question
module _ {A : Type 0} {First Second : Relation A} where
  pub one_by_switch : (first : Bool) → IsOne First → IsOne Second → IsOne (cond first First Second)
  one_by_switch true one other = one
  one_by_switch false one other = other

  pub onward_by_switch : {k l : ℕ} (first : Bool) → IsOnward k First → IsOnward l Second
      → IsOnward 0 (cond first First Second)
  onward_by_switch true one other = any_onward one
  onward_by_switch false one other = any_onward other

pub delimited_by_switch : {A S : Type 0} {First Second : Relation A} {says : A → S} {x y : S → List ℕ}
    {Fits Others : S → Type 0} (first : Bool) → IsDelimited First says x Fits → IsDelimited Second says y Others
    → IsDelimited (cond first First Second) says (cond first x y) (cond first Fits Others)
delimited_by_switch true one other = one
delimited_by_switch false one other = other
