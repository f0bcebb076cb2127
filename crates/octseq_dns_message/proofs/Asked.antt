-- The first of some questions, and the only one.
use Rattle.std.proofs.Common.{◌≡◌, List, [], ◌∷◌, length, Option, Some, None, Result, Ok, Err, IsErr, IfOk}
use Rattle.std.proofs.Common.{sym, ap, ◌∙◌, arith}
use Rattle.std.proofs.lemmas.Option.{none-some, same_Some}
use Rattle.std.specs.Prelude.{option_map, slice_get}
use Rattle.std.specs.Result.{result_ok}

alone : {Q : Type 0} (q : Q) (questions : List Q) → Some q ≡ slice_get questions 0 → length questions ≡ 1
    → questions ≡ q ∷ []
alone q [] first one = absurd (omega (arith, one))
alone q (x ∷ []) first one = ap (λ x. x ∷ []) (sym (same_Some q x first))
alone q (x ∷ y ∷ more) first one = absurd (omega (arith, one))

-- if there is only one, it is the first
pub sole : {A Q E : Type 0} (view : A → Q) (questions : List Q) (first : Option A) (found : Result A E)
    → option_map view first ≡ slice_get questions 0 → length questions ≡ 1 → first ≡ result_ok found
    → IfOk found (λ q. questions ≡ view q ∷ [])
sole view questions first (Ok q) is one same = alone (view q) questions (sym (ap (option_map view) same) ∙ is) one
sole view questions first (Err e) is one same = tt

some_first : {Q : Type 0} (questions : List Q) → None ≡ slice_get questions 0 → length questions ≡ 1 → ⊥
some_first [] first one = omega (arith, one)
some_first (x ∷ questions) first one = none-some x first

-- and there is a first one
pub sole_refused : {A Q E : Type 0} (view : A → Q) (questions : List Q) (first : Option A) (found : Result A E)
    → option_map view first ≡ slice_get questions 0 → first ≡ result_ok found → IsErr found
    → length questions ≡ 1 → ⊥
sole_refused view questions first (Ok q) is same err one = cc
sole_refused view questions first (Err e) is same err one =
    some_first questions (sym (ap (option_map view) same) ∙ is) one
