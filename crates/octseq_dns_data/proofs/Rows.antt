-- Rows of values that take octets, up to a place.
use Rattle.std.proofs.Common.{◌≡◌, ℕ, List, [], ◌∷◌, length, refl, sym, ap, ◌∙◌, subst}
use Rattle.std.proofs.Math.Logic.{∥∥₁_elim}
use Rattle.std.specs.Coded.{Coded, Coded-set, coded_list, coded_ℕ}
use mathlib.Core.HLevel.{⊥_prop}
use Rattle.octseq.specs.Window.{Window}
use Rattle.octseq_dns_data.specs.OneRow.{IsOneItem, one_row_at, IsRowTo, reached_once}
use Rattle.octseq_format.specs.Laws.{Relation, NoneAt}
use Rattle.octseq_format.specs.Row.{Row, Holds}

-- ---- rows up to a place

-- before the end of a row there is a first value
first_of : {A : Type 0} (Is : Relation A) → IsOneItem Is → (u x v : Window) (one : A) (row : List A)
    → (u.position ≡ v.position → ⊥) → Is u one x → Row Is u row v
    → (more : List A) × (row ≡ one ∷ more) × Row Is x more v
first_of Is item u x v one [] before is row = absurd (before (sym (ap (λ v. v.position) row)))
first_of Is item u x v one (y ∷ row) before is all =
    let same = item.one.same u y one all.0 x all.1 is in
    (row, ap (λ y. y ∷ row) same.0, subst (λ x. Row Is x row v) same.1 all.2)

some_of : {A : Type 0} (Is : Relation A) (u v : Window) (row : List A) → (u.position ≡ v.position → ⊥)
    → NoneAt Is u → Row Is u row v → ⊥
some_of Is u v [] before none row = before (sym (ap (λ v. v.position) row))
some_of Is u v (y ∷ row) before none all = none y all.0 all.1

-- a row that ends where it begins is empty
pub none_of : {A : Type 0} (Is : Relation A) → IsOneItem Is → (w v : Window) (row : List A)
    → w.position ≡ v.position → Row Is w row v → row ≡ []
none_of Is item w v row same all = one_row_at Is item w v w row [] (sym same) all refl

-- ---- rows that a value keeps

-- what was read is what is kept
pub reached_as : {A : Type 0} (code : Coded A) (Is : Relation A) → IsOneItem Is
    → (w v : Window) (end : ℕ) (row : List A) (held : IsRowTo Is w end)
    → v.position ≡ end → Row Is w row v → row ≡ held.0
reached_as code Is item w v end row held ends is = ∥∥₁_elim held.1 (Coded-set (coded_list code) row held.0) (λ x.
    one_row_at Is item w v x.0 row held.0 (ends ∙ sym x.2) is x.1)

-- at the end nothing is left
pub reached_none : {A : Type 0} (code : Coded A) (Is : Relation A) → IsOneItem Is
    → (w : Window) (end : ℕ) (held : IsRowTo Is w end) → w.position ≡ end → held.0 ≡ []
reached_none code Is item w end held same = ∥∥₁_elim held.1 (Coded-set (coded_list code) held.0 [])
    (λ x. none_of Is item w x.0 held.0 (same ∙ sym x.2) x.1)

-- before the end something is there
pub reached_not : {A : Type 0} (Is : Relation A) (w : Window) (end : ℕ) (held : IsRowTo Is w end)
    → (w.position ≡ end → ⊥) → NoneAt Is w → ⊥
reached_not Is w end held other none = ∥∥₁_elim held.1 ⊥_prop
    (λ x. some_of Is w x.0 held.0 (λ same. other (same ∙ x.2)) none x.1)

-- and the rest after it is a fact
pub reached_more : {A : Type 0} (code : Coded A) (Is : Relation A) → IsOneItem Is
    → (w u : Window) (end : ℕ) (one : A) (held : IsRowTo Is w end)
    → (w.position ≡ end → ⊥) → Is w one u → IsRowTo Is u end
reached_more code Is item w u end one held other is =
    ∥∥₁_elim held.1 (reached_once code Is item u end) (λ x.
    let on = first_of Is item w u x.0 one held.0 (λ same. other (same ∙ x.2)) is x.1 in
    (on.0, ∣ (x.0, on.2, x.2) ∣₁))

-- a row that is kept is its first value, followed by the row that is kept after it
pub reached_then : {A : Type 0} (code : Coded A) (Is : Relation A) → IsOneItem Is
    → (w u : Window) (end last : ℕ) (one : A) (held : IsRowTo Is w end)
    (after : IsRowTo Is u last) → last ≡ end → (w.position ≡ end → ⊥) → Is w one u → held.0 ≡ one ∷ after.0
reached_then code Is item w u end last one held after to other is =
    ∥∥₁_elim held.1 (Coded-set (coded_list code) held.0 (one ∷ after.0)) (λ x.
    let on = first_of Is item w u x.0 one held.0 (λ same. other (same ∙ x.2)) is x.1 in
    on.1 ∙ ap (λ more. one ∷ more) (reached_as code Is item u x.0 last on.0 after (x.2 ∙ sym to) on.2))

-- ---- rows with a count

-- a row that is held has `count` values
pub held_count : {A : Type 0} (Is : Relation A) (w : Window) (count : ℕ) (held : Holds Is w count)
    → count ≡ length held.0
held_count Is w count held = ∥∥₁_elim held.1 (Coded-set coded_ℕ count (length held.0)) (λ x. sym x.1.0)
