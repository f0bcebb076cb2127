-- One value, or another that takes all that is left, where nothing of the first is there.
use Rattle.std.specs.Prelude.{◌≡◌, ℕ, ◌+◌, ◌<◌, ◌≤◌, ◌⊎◌, List, [], ◌∷◌, ◌++◌, length}
use Rattle.std.proofs.Common.{inl, inr, sym, ap, ◌∙◌, subst, arith}
use Rattle.octseq.specs.Window.{Window, left, rest}
use Rattle.octseq_format.specs.Family.{ByKey, either_says, one_when, onward_when}
use Rattle.octseq_format.specs.Laws.{Relation, NoneAt, TakesOctets, IsOne, IsOnward, IsReadBack}
use Rattle.octseq_format.specs.Pair.{◌then◌}
use Rattle.octseq_format.specs.Row.{Row, RowTo, Moved}
use Rattle.octseq_format.specs.Tagged.{one_tagged, onward_tagged}
use Rattle.octseq_format.specs.Until.{IsNot, IsItem, IsUntil, no_item}

abbrev pub FirstOr : {A B : Type 0} → Relation A → Relation B → Relation (A ⊎ B)
FirstOr First Second w (inl a) v = First w a v
FirstOr First Second w (inr b) v = NoneAt First w × Second w b v × (left v ≡ 0)

-- a list of each
abbrev pub one_octets : {S T : Type 0} → (S → List ℕ) → (T → List ℕ) → S ⊎ T → List ℕ
one_octets first second (inl a) = first a
one_octets first second (inr b) = second b

abbrev pub OneFits : {S T : Type 0} → (S → Type 0) → (T → Type 0) → S ⊎ T → Type 0
OneFits First Second (inl a) = First a
OneFits First Second (inr b) = Second b

-- No offset has both.
abbrev pub AreApart : {A B : Type 0} → Relation A → Relation B → Type 0
AreApart {A} {B} First Second = (w : Window) (a : A) (u : Window) (b : B) (v : Window) → First w a u → Second w b v → ⊥

-- ---- lemmas: proved below this line, so what the words mean is read above it

module _ {A B : Type 0} (First : Relation A) (Second : Relation B) where
  same_one : IsOne First → IsOne Second → (w : Window) (a b : A ⊎ B) (u v : Window) → FirstOr First Second w a u
      → FirstOr First Second w b v → (a ≡ b) × (u ≡ v)
  same_one one other w (inl a) (inl b) u v is also = let same = one.same w a b u v is also in (ap inl same.0, same.1)
  same_one one other w (inl a) (inr b) u v is also = absurd (also.0 a u is)
  same_one one other w (inr a) (inl b) u v is also = absurd (is.0 b v also)
  same_one one other w (inr a) (inr b) u v is also =
      let same = other.same w a b u v is.1 also.1 in (ap inr same.0, same.1)

  pub one_first_or : IsOne First → IsOne Second → IsOne (FirstOr First Second)
  one_first_or one other = record { same = same_one one other }

  first_on : {l m : ℕ} → IsOnward l First → IsOnward m Second → (w : Window) (a : A ⊎ B) (v : Window)
      → w.position ≤ w.end → FirstOr First Second w a v
      → (v.octets ≡ w.octets) × (v.end ≡ w.end) × (w.position ≤ v.position) × (v.position ≤ v.end)
  first_on one other w (inl a) v ordered is = one.on w a v ordered is
  first_on one other w (inr b) v ordered is = other.on w b v ordered is.1

  first_less : {l m : ℕ} → IsOnward l First → IsOnward m Second → (w : Window) (a : A ⊎ B) (v : Window)
      → FirstOr First Second w a v → left v + 0 ≤ left w
  first_less one other w (inl a) v is = let less = one.less w a v is in omega (arith, less)
  first_less one other w (inr b) v is = let less = other.less w b v is.1 in omega (arith, less)

  pub onward_first_or : {l m : ℕ} → IsOnward l First → IsOnward m Second → IsOnward 0 (FirstOr First Second)
  onward_first_or one other = record { on = first_on one other; less = first_less one other }

  -- neither is there, if the second isn't, or octets are left after it
  pub none_second : (w : Window) → NoneAt First w → NoneAt Second w → NoneAt (FirstOr First Second) w
  none_second w none neither (inl a) v is = none a v is
  none_second w none neither (inr b) v is = neither b v is.1

  pub octets_left : (w u : Window) (b : B) → IsOne Second → NoneAt First w → Second w b u → ¬ (left u ≡ 0)
      → NoneAt (FirstOr First Second) w
  octets_left w u b single none is some (inl a) v other = none a v other
  octets_left w u b single none is some (inr c) v other =
      some (ap left (single.same w b c u v is other.1).1 ∙ other.2)

module _ {A B S T : Type 0} {First : Relation A} {Second : Relation B} {says : A → S} {tells : B → T}
    {first : S → List ℕ} {second : T → List ℕ} {FirstFits : S → Type 0} {SecondFits : T → Type 0} where
  pub first_or_read_back : AreApart First Second → IsReadBack First says first FirstFits
      → IsReadBack Second tells second SecondFits
      → IsReadBack (FirstOr First Second) (either_says says tells) (one_octets first second)
      (OneFits FirstFits SecondFits)
  first_or_read_back apart one other = record { back = back } where
    back : (w : Window) (said : S ⊎ T) → OneFits FirstFits SecondFits said → rest w ≡ one_octets first second said
        → w.end ≡ w.position + length (one_octets first second said)
        → TakesOctets (FirstOr First Second) (either_says says tells) w said (length (one_octets first second said))
    back w (inl a) fits is all =
        let taken = one.back w a fits is all in
        record { it = inl taken.it; tells = ap inl taken.tells; is = taken.is }
    back w (inr b) fits is all =
        let taken = other.back w b fits is all in
        record {
          it = inr taken.it;
          tells = ap inr taken.tells;
          is = ((λ a u there. apart w a u taken.it _ there taken.is), taken.is, omega (arith, all));
        }

-- ---- items up to the window's end, and items up to a tag that isn't one of theirs
module _ {A : Type 0} (n : ℕ) {Number : Relation ℕ} {Is : ByKey A} {least : ℕ} (one : IsOne Number)
    (onward : IsOnward least Number) (some : 0 < least) (each : (key : ℕ) → IsOne (Is key))
    (on : (key : ℕ) → IsOnward 0 (Is key)) where
  rows_apart : (w u v x : Window) (row others : List A) → Row (Moved (IsItem n Number Is)) w row u → left u ≡ 0
      → Row (IsItem n Number Is) w others v → Number v n x → ⊥
  rows_apart w u v x [] [] is ends other also =
      let here = ap left is in let there = ap left other in let less = onward.less v n x also in
      omega (arith, here, there, less, some, ends)
  rows_apart w u v x [] (b ∷ others) is ends other also =
      let here = ap left is in
      let less = (onward_tagged onward (onward_when (IsNot n) on)).less w b other.0 other.1 in
      omega (arith, here, less, some, ends)
  rows_apart w u v x (a ∷ row) [] is ends other also =
      no_item n Is one w a is.0 x is.1.0 (subst (λ v. Number v n x) other also)
  rows_apart w u v x (a ∷ row) (b ∷ others) is ends other also =
      let here = (one_tagged one (one_when (IsNot n) each)).same w a b is.0 other.0 is.1.0 other.1 in
      rows_apart other.0 u v x row others (subst (λ w. Row (Moved (IsItem n Number Is)) w row u) here.1 is.2) ends
      other.2 also

  -- items up to the end, and items up to the tag n with what follows it, are never at the same offset
  pub lists_apart : {B : Type 0} (More : Relation B)
      → AreApart (RowTo (Moved (IsItem n Number Is))) (IsUntil n Number Is then More)
  lists_apart More w row u both v is other =
      rows_apart w u other.1.0 other.0 row both.0 is.0 is.1 other.1.1 other.1.2
