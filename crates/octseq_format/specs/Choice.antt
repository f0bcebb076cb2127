-- What holds of a choice by a test.
use Rattle.std.specs.Prelude.{◌≡◌, Bool, true, false, if◌then◌else◌, refl}
use Rattle.std.proofs.Common.{ap, sym, subst}

-- ---- lemmas: proved below this line, so what the words mean is read above it

-- what holds of each branch holds of the choice
pub by_test : {A : Type 0} (P : A → Type 0) (test : Bool) (x y : A) → (test ≡ true → P x) → (test ≡ false → P y)
    → P (if test then x else y)
by_test P test x y first second = by test refl where
  by : (t : Bool) → test ≡ t → P (if test then x else y)
  by true is = subst (λ t. P (if t then x else y)) (sym is) (first is)
  by false is = subst (λ t. P (if t then x else y)) (sym is) (second is)

-- a test that holds chooses the first
pub first_of_two : {A : Type 0} {test : Bool} (x y : A) → test ≡ true → (if test then x else y) ≡ x
first_of_two x y is = ap (λ t. if t then x else y) is

-- a test that doesn't hold chooses the second
pub second_of_two : {A : Type 0} {test : Bool} (x y : A) → test ≡ false → (if test then x else y) ≡ y
second_of_two x y is = ap (λ t. if t then x else y) is
