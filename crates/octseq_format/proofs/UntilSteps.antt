-- Items up to a tag that ends them, read item by item.
use Rattle.std.proofs.Common.{◌<◌, ◌≤◌, ℕ, List, [], ◌∷◌, sym, subst, arith}
use Rattle.std.specs.Prelude.{Some, None}
use Rattle.octseq.specs.Window.{Window}
use Rattle.octseq_format.specs.Family.{ByKey, one_when, onward_when}
use Rattle.octseq_format.specs.Laws.{Relation, NoneAt, IsOne, IsOnward, IsMoving, moving_of}
use Rattle.octseq_format.specs.Row.{Row}
use Rattle.octseq_format.specs.Tagged.{one_tagged, onward_tagged}
use Rattle.octseq_format.specs.Until.{IsNot, IsItem, IsNextItem, IsUntil, no_item}

-- an item takes at least one octet, that of its tag
pub item_moves : {A : Type 0} (n : ℕ) {Number : Relation ℕ} {Is : ByKey A} {least : ℕ} → IsOnward least Number
    → ((key : ℕ) → IsOnward 0 (Is key)) → 0 < least → IsMoving (IsItem n Number Is)
item_moves n number onward some = moving_of (onward_tagged number (onward_when (IsNot n) onward)) some

-- so what comes next is at a later position
pub item_goes_on : {A : Type 0} (n : ℕ) {Number : Relation ℕ} {Is : ByKey A} {least : ℕ} → IsOnward least Number
    → ((key : ℕ) → IsOnward 0 (Is key)) → 0 < least → (w : Window) (a : A) (v : Window) → w.position ≤ w.end
    → IsItem n Number Is w a v → w.position < v.position
item_goes_on n number onward some w a v ordered is =
    let item = onward_tagged number (onward_when (IsNot n) onward) in
    let on = item.on w a v ordered is in
    let less = item.less w a v is in
    omega (arith, on.1, on.2, on.3, less, some)

module _ {A : Type 0} (n : ℕ) {Number : Relation ℕ} (Is : ByKey A) (number : IsOne Number) where
  -- where neither an item nor the tag n follows some items, the items don't end
  ends_nowhere : IsOne (IsItem n Number Is) → (w u x v : Window) (row others : List A)
      → NoneAt (IsNextItem n Number Is) u → Row (IsItem n Number Is) w row u → Row (IsItem n Number Is) w others x
      → Number x n v → ⊥
  ends_nowhere one w u x v [] [] none a b ends =
      none None v (subst (λ u. Number u n v) (sym a) (subst (λ x. Number x n v) b ends))
  ends_nowhere one w u x v [] (y ∷ others) none a b ends =
      none (Some y) b.0 (subst (λ w. IsItem n Number Is w y b.0) (sym a) b.1)
  ends_nowhere one w u x v (y ∷ row) [] none a b ends =
      no_item n Is number w y a.0 v a.1 (subst (λ x. Number x n v) b ends)
  ends_nowhere one w u x v (y ∷ row) (z ∷ others) none a b ends =
      let here = one.same w y z a.0 b.0 a.1 b.1 in
      ends_nowhere one a.0 u x v row others none a.2
      (subst (λ w. Row (IsItem n Number Is) w others x) (sym here.1) b.2) ends

  pub until_nowhere : ((key : ℕ) → IsOne (Is key)) → (w u : Window) (row : List A)
      → NoneAt (IsNextItem n Number Is) u → Row (IsItem n Number Is) w row u → NoneAt (IsUntil n Number Is) w
  until_nowhere one w u row none is others v other =
      ends_nowhere (one_tagged number (one_when (IsNot n) one)) w u other.0 v row others none is other.1 other.2
