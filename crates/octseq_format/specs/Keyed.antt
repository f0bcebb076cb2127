-- A value, followed by what its key decides.
use Rattle.std.specs.Prelude.{◌≡◌, ℕ, ◌+◌, ◌≤◌, List, ◌++◌, length, refl}
use Rattle.std.proofs.Common.{sym, ap, ◌∙◌, subst, arith, length-append, append_assoc}
use Rattle.octseq.specs.Window.{Window, left, past, rest}
use Rattle.octseq.proofs.WindowsAfter.{front_comes_next}
use Rattle.octseq_format.specs.Family.{ByKey}
use Rattle.octseq_format.specs.Laws.{Relation, TakesOctets, IsOne, IsOnward, IsReadBack, IsDelimited}
use Rattle.octseq_format.specs.Pair.{◌then◌, ◌and◌, ◌before◌, ◌also◌, ◌one_then◌, ◌onward_then◌, ◌back_then◌}
use Rattle.octseq_format.specs.Pair.{◌delimited_then◌, both_say, same_pair, past_both}

-- A value, and one that its key decides.
abbrev pub KeyThen : {A B S : Type 0} → (S → ℕ) → (A → S) → Relation A → ByKey B → Relation (A × B)
KeyThen key says First Second w both v =
    (u : Window) × First w both.0 u × Second (key (says both.0)) u both.1 v

-- the octets of both
unfoldable pub keyed_octets : {S T : Type 0} → (S → ℕ) → (S → List ℕ) → (ℕ → T → List ℕ) → S × T → List ℕ
keyed_octets key first second both = first both.0 ++ second (key both.0) both.1

-- Both fit, the second with the key of the first.
pub record KeyedFit {S T : Type 0} (key : S → ℕ) (First : S → Type 0) (Second : ℕ → T → Type 0)
    (both : S × T) : Type 0 where
  pub first : First both.0
  pub second : Second (key both.0) both.1

-- ---- lemmas: proved below this line, so what the words mean is read above it

-- a second value that takes its octets, past those of a first one
keyed_taken : {A B S T : Type 0} (key : S → ℕ) (says : A → S) (tells : B → T) {First : Relation A} (Second : ByKey B)
    (w : Window) (said : S × T) (x y : List ℕ) → TakesOctets First says w said.0 (length x)
    → TakesOctets (Second (key said.0)) tells (past (length x) w) said.1 (length y)
    → TakesOctets (KeyThen key says First Second) (both_say says tells) w said (length (x ++ y))
unfolding both_say
keyed_taken key says tells Second w said x y one two = record {
  it = (one.it, two.it);
  tells = same_pair one.tells two.tells;
  is = (
    past (length x) w,
    one.is,
    subst (λ k. Second k (past (length x) w) two.it (past (length (x ++ y)) w)) (sym (ap key one.tells))
        (subst (Second (key said.0) (past (length x) w) two.it) (past_both w x y) two.is),
  );
}

module _ {A B S : Type 0} (key : S → ℕ) (says : A → S) {First : Relation A} {Second : ByKey B} where
  pub one_keyed : IsOne First → ((k : ℕ) → IsOne (Second k)) → IsOne (KeyThen key says First Second)
  one_keyed first second = record {
    same = λ w a b u v is other.
        let here = first.same w a.0 b.0 is.0 other.0 is.1 other.1 in
        let k = key (says a.0) in
        let again = subst (λ n. Second n other.0 b.1 v) (sym (ap (λ a. key (says a)) here.0)) other.2 in
        let there = (second k).same is.0 a.1 b.1 u v is.2 (subst (λ x. Second k x b.1 v) (sym here.1) again) in
        (same_pair here.0 there.0, there.1);
  }

  pub onward_keyed : {m : ℕ} → IsOnward m First → ((k : ℕ) → IsOnward 0 (Second k))
      → IsOnward m (KeyThen key says First Second)
  onward_keyed first second = record {
    on = λ w a v ordered is.
        let one = first.on w a.0 is.0 ordered is.1 in
        let two = (second (key (says a.0))).on is.0 a.1 v (omega (arith, one.1, one.2, one.3)) is.2 in
        (two.0 ∙ one.0, two.1 ∙ one.1, omega (arith, one.2, two.2), two.3);
    less = λ w a v is.
        let one = first.less w a.0 is.0 is.1 in
        let two = (second (key (says a.0))).less is.0 a.1 v is.2 in
        omega (arith, one, two);
  }

module _ {A B S T : Type 0} (key : S → ℕ) (says : A → S) {First : Relation A} {Second : ByKey B} {tells : B → T}
    {first : S → List ℕ} {second : ℕ → T → List ℕ} {FirstFits : S → Type 0} {SecondFits : ℕ → T → Type 0} where
  pub delimited_keyed : IsDelimited First says first FirstFits
      → ((k : ℕ) → IsDelimited (Second k) tells (second k) (SecondFits k))
      → IsDelimited (KeyThen key says First Second) (both_say says tells) (keyed_octets key first second)
      (KeyedFit key FirstFits SecondFits)
  unfolding keyed_octets
  delimited_keyed one two = record {
    next = λ w said more fits is.
        let k = key said.0 in
        let x = first said.0 in
        let y = second k said.1 in
        let apart : rest w ≡ x ++ (y ++ more) = is ∙ append_assoc x y more in
        let come = front_comes_next w x (y ++ more) (length x) apart refl in
        keyed_taken key says tells Second w said x y (one.next w said.0 (y ++ more) fits.first apart)
        ((two k).next (past (length x) w) said.1 more fits.second come.2);
  }

  pub keyed_read_back : IsDelimited First says first FirstFits
      → ((k : ℕ) → IsReadBack (Second k) tells (second k) (SecondFits k))
      → IsReadBack (KeyThen key says First Second) (both_say says tells) (keyed_octets key first second)
      (KeyedFit key FirstFits SecondFits)
  unfolding keyed_octets
  keyed_read_back one two = record {
    back = λ w said fits is all.
        let k = key said.0 in
        let x = first said.0 in
        let y = second k said.1 in
        let come = front_comes_next w x y (length x) is refl in
        let long : length (x ++ y) ≡ length x + length y = length-append x y in
        keyed_taken key says tells Second w said x y (one.next w said.0 y fits.first is)
        ((two k).back (past (length x) w) said.1 fits.second come.2 (omega (arith, all, long)));
  }
