-- One value, followed by another.
use Rattle.std.specs.Prelude.{◌≡◌, min, ◌⊎◌, Bool, ◌&&◌, IsTrue, ℕ, ◌+◌, ◌<◌, ◌^◌, List, ◌++◌, length, refl, Option}
use Rattle.std.specs.Prelude.{Some, None, SomeIff}
use Rattle.std.proofs.Common.{inl, inr, sym, ap, ◌∙◌, subst, arith, length-append, append_assoc}
use Rattle.std.specs.Coded.{Coded, coded×}
use Rattle.octseq.specs.Window.{Window, rest, at, past}
use Rattle.octseq.proofs.WindowsAfter.{front_comes_next}
use Rattle.octseq_format.specs.Canonical.{IsCanonical, both_ways}
use Rattle.octseq_format.specs.Laws.{Relation, TakesOctets, IsOne, IsOnward, IsReadBack, IsDelimited}

abbrev pub ◌then◌ : {A B : Type 0} → Relation A → Relation B → Relation (A × B)
(First then Second) w both v = (u : Window) × First w both.0 u × Second u both.1 v

-- what both say
unfoldable pub both_say : {A B S T : Type 0} → (A → S) → (B → T) → A × B → S × T
both_say first second both = (first both.0, second both.1)

abbrev pub ◌and◌ : {A B S T : Type 0} → (A → S) → (B → T) → A × B → S × T
first and second = both_say first second

-- the octets of both
unfoldable pub both_octets : {A B : Type 0} → (A → List ℕ) → (B → List ℕ) → A × B → List ℕ
both_octets first second both = first both.0 ++ second both.1

abbrev pub ◌before◌ : {A B : Type 0} → (A → List ℕ) → (B → List ℕ) → A × B → List ℕ
first before second = both_octets first second

-- Both fit.
pub record BothFit {A B : Type 0} (First : A → Type 0) (Second : B → Type 0) (both : A × B) : Type 0 where
  pub first : First both.0
  pub second : Second both.1

abbrev pub ◌also◌ : {A B : Type 0} → (A → Type 0) → (B → Type 0) → A × B → Type 0
First also Second = BothFit First Second

-- the number of octets of both, by those of each: there is one if each has one and a `usize` can hold it
abbrev pub AreBoth : Option ℕ → Option ℕ → Option ℕ → Type 0
AreBoth None second both = both ≡ None
AreBoth (Some m) None both = both ≡ None
AreBoth (Some m) (Some n) both = SomeIff both (m + n < 2 ^ 64) (m + n)

-- the turns of both
abbrev pub ◌plus◌ : {A B : Type 0} → (A → ℕ) → (B → ℕ) → A × B → ℕ
(first plus second) both = first both.0 + second both.1

-- the sum of two keys, at most the greatest `usize`
abbrev pub ◌key_and◌ : {A B : Type 0} → (A → ℕ) → (B → ℕ) → A × B → ℕ
(first key_and second) both = min (first both.0 + second both.1) 18446744073709551615

-- the code of both
abbrev pub ◌code_then◌ : {A B : Type 0} → Coded A → Coded B → Coded (A × B)
first code_then second = coded× first second

-- ---- lemmas: proved below this line, so what the words mean is read above it

infixr 5 ◌then◌
infixr 5 ◌and◌
infixr 5 ◌before◌
infixr 5 ◌also◌
fit_once : {A B : Type 0} {First : A → Type 0} {Second : B → Type 0} → ((a : A) → IsProp (First a))
    → ((b : B) → IsProp (Second b)) → (both : A × B) → IsProp ((First also Second) both)
fit_once one two both a b =
    ap (λ first. record { first = first; second = a.second }) (one both.0 a.first b.first)
    ∙ ap (λ second. record { first = b.first; second = second }) (two both.1 a.second b.second)

infixr 5 ◌plus◌
infixr 5 ◌key_and◌
infixr 5 ◌code_then◌
pub same_pair : {A B : Type 0} {a c : A} {b d : B} → a ≡ c → b ≡ d → Path (A × B) (a, b) (c, d)
same_pair {c = c} {b = b} first second = ap (λ a. (a, b)) first ∙ ap (λ b. (c, b)) second

-- past two lists of octets is past the first and then past the second
pub past_both : (w : Window) (x y : List ℕ) → past (length y) (past (length x) w) ≡ past (length (x ++ y)) w
past_both w x y =
    let long : length (x ++ y) ≡ length x + length y = length-append x y in
    ap (λ p. at p w) (omega (arith, long))

-- a sum is positive if its first number is
pub some_more : {m : ℕ} (n : ℕ) → 0 < m → 0 < m + n
some_more n some = omega (arith, some)

-- or if one of its numbers is
pub some_either : {A B : Type 0} {m n : ℕ} → (A → 0 < m) → (B → 0 < n) → A ⊎ B → 0 < m + n
some_either first second (inl a) = let some = first a in omega (arith, some)
some_either first second (inr b) = let some = second b in omega (arith, some)

module _ {A B : Type 0} {First : Relation A} {Second : Relation B} where
  infixr 5 ◌one_then◌
  pub ◌one_then◌ : IsOne First → IsOne Second → IsOne (First then Second)
  first one_then second = record {
    same = λ w a b u v is other.
        let here = first.same w a.0 b.0 is.0 other.0 is.1 other.1 in
        let there = second.same is.0 a.1 b.1 u v is.2 (subst (λ x. Second x b.1 v) (sym here.1) other.2) in
        (same_pair here.0 there.0, there.1);
  }

  infixr 5 ◌onward_then◌
  pub ◌onward_then◌ : {m n : ℕ} → IsOnward m First → IsOnward n Second → IsOnward (m + n) (First then Second)
  first onward_then second = record {
    on = λ w a v ordered is.
        let one = first.on w a.0 is.0 ordered is.1 in
        let two = second.on is.0 a.1 v (omega (arith, one.1, one.2, one.3)) is.2 in
        (two.0 ∙ one.0, two.1 ∙ one.1, omega (arith, one.2, two.2), two.3);
    less = λ w a v is.
        let one = first.less w a.0 is.0 is.1 in
        let two = second.less is.0 a.1 v is.2 in
        omega (arith, one, two);
  }

  module _ {S T : Type 0} {says : A → S} {tells : B → T} where
    -- a second value that takes its octets, past those of a first one
    both_taken : (w : Window) (said : S × T) (x y : List ℕ) → TakesOctets First says w said.0 (length x)
        → TakesOctets Second tells (past (length x) w) said.1 (length y)
        → TakesOctets (First then Second) (says and tells) w said (length (x ++ y))
    unfolding both_say
    both_taken w said x y one two = record {
      it = (one.it, two.it);
      tells = same_pair one.tells two.tells;
      is = (
        past (length x) w,
        one.is,
        subst (Second (past (length x) w) two.it) (past_both w x y) two.is,
      );
    }

    module _ {first : S → List ℕ} {second : T → List ℕ} {FirstFits : S → Type 0} {SecondFits : T → Type 0} where
      infixr 5 ◌delimited_then◌
      pub ◌delimited_then◌ : IsDelimited First says first FirstFits → IsDelimited Second tells second SecondFits
          → IsDelimited (First then Second) (says and tells) (first before second)
          (FirstFits also SecondFits)
      unfolding both_octets
      one delimited_then two = record {
        next = λ w said more fits is.
            let x = first said.0 in
            let y = second said.1 in
            let apart : rest w ≡ x ++ (y ++ more) = is ∙ append_assoc x y more in
            let come = front_comes_next w x (y ++ more) (length x) apart refl in
            both_taken w said x y (one.next w said.0 (y ++ more) fits.first apart)
            (two.next (past (length x) w) said.1 more fits.second come.2);
      }

      infixr 5 ◌back_then◌
      pub ◌back_then◌ : IsDelimited First says first FirstFits → IsReadBack Second tells second SecondFits
          → IsReadBack (First then Second) (says and tells) (first before second)
          (FirstFits also SecondFits)
      unfolding both_octets
      one back_then two = record {
        back = λ w said fits is all.
            let x = first said.0 in
            let y = second said.1 in
            let come = front_comes_next w x y (length x) is refl in
            let long : length (x ++ y) ≡ length x + length y = length-append x y in
            both_taken w said x y (one.next w said.0 y fits.first is)
            (two.back (past (length x) w) said.1 fits.second come.2 (omega (arith, all, long)));
      }

      canonical_pair : IsCanonical First says first FirstFits → IsCanonical Second tells second SecondFits
          → IsCanonical (First then Second) (says and tells) (first before second) (FirstFits also SecondFits)
      unfolding both_octets both_say
      canonical_pair one two = record {
        once = fit_once one.once two.once;
        written = λ w a v sound is.
            let here = one.written w a.0 is.0 sound is.1 in
            let there = two.written is.0 a.1 v (one.on w a.0 is.0 sound is.1) is.2 in
            let x = first (says a.0) in (
              record { first = here.0; second = there.0 },
              here.1 ∙ ap (λ o. x ++ o) there.1 ∙ sym (append_assoc x (second (tells a.1)) (rest v)),
            );
        on = λ w a v sound is. two.on is.0 a.1 v (one.on w a.0 is.0 sound is.1) is.2;
      }

      infixr 5 ◌canonical_then◌
      pub ◌canonical_then◌ : {a b : Bool} → (IsTrue a → IsCanonical First says first FirstFits)
          → (IsTrue b → IsCanonical Second tells second SecondFits) → IsTrue (a && b)
          → IsCanonical (First then Second) (says and tells) (first before second) (FirstFits also SecondFits)
      (one canonical_then two) both =
          let ways = both_ways _ _ both in
          canonical_pair (one ways.0) (two ways.1)
