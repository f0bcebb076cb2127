-- At most one row of values that take octets is between two places, so a value may keep such a row as a fact.
use Rattle.std.specs.Prelude.{◌≡◌, ℕ, ◌≤◌, List, [], ◌∷◌}
use Rattle.std.proofs.Common.{sym, ap, ◌∙◌, arith}
use Rattle.std.specs.Coded.{Coded, Coded-set, coded_list, coded_ℕ}
use Rattle.std.proofs.Math.Logic.{∥∥₁_prop, ∥∥₁_elim}
use mathlib.Core.HLevel.{Σ_prop_path}
use Rattle.octseq.specs.Window.{Window, left}
use Rattle.octseq_dns_data.specs.Strings.{HasString}
use Rattle.octseq_format.specs.Laws.{Relation, IsOne, IsMoving}
use Rattle.octseq_format.specs.Row.{Row, row_moves, one_row_to}

-- At most one such value is there. It takes at least one octet, and the window past it has the same end.
pub record IsOneItem {A : Type 0} (Is : Relation A) : Type 0 where
  pub one : IsOne Is
  pub moving : IsMoving Is
  pub ends : (w : Window) (a : A) (v : Window) → Is w a v → v.end ≡ w.end

-- the row from a window's position to a place
abbrev pub IsRowTo : {A : Type 0} → Relation A → Window → ℕ → Type 0
IsRowTo {A} Is w end = (row : List A) × ∥ ((v : Window) × Row Is w row v × (v.position ≡ end)) ∥₁

-- character strings
abbrev pub string_code : Coded (List ℕ)
string_code = coded_list coded_ℕ

-- ---- lemmas: proved below this line, so what the words mean is read above it

-- so does the window past a row of them
pub row_end : {A : Type 0} (Is : Relation A) → IsOneItem Is → (w v : Window) (row : List A) → Row Is w row v
    → v.end ≡ w.end
row_end Is item w v [] is = ap (λ (x : Window). x.end) is
row_end Is item w v (x ∷ row) is = row_end Is item is.0 v row is.2 ∙ item.ends w x is.0 is.1

-- its position is no earlier
pub row_on : {A : Type 0} (Is : Relation A) → IsOneItem Is → (w v : Window) (row : List A) → Row Is w row v
    → w.position ≤ v.position
row_on Is item w v [] is = let same = ap (λ (x : Window). x.position) is in omega (arith, same)
row_on Is item w v (x ∷ row) is =
    let first = item.moving.on w x is.0 is.1 in
    let more = row_moves Is item.moving is.0 v row is.2 in
    let end = row_end Is item w v (x ∷ row) is in
    omega (arith, first, more, end)

-- so the place where a row ends decides which row it is
pub one_row_at : {A : Type 0} (Is : Relation A) → IsOneItem Is → (w u v : Window) (row others : List A)
    → u.position ≡ v.position → Row Is w row u → Row Is w others v → row ≡ others
one_row_at Is item w u v row others same a b =
    let here = row_end Is item w u row a in
    let there = row_end Is item w v others b in
    (one_row_to Is item.one item.moving w u v row others (omega (arith, same, here, there)) a b).0

-- it is a fact
pub reached_once : {A : Type 0} (code : Coded A) (Is : Relation A) → IsOneItem Is → (w : Window) (end : ℕ)
    → IsProp (IsRowTo Is w end)
reached_once {A} code Is item w end a b =
    let set : IsProp (a.0 ≡ b.0) = Coded-set (coded_list code) a.0 b.0 in
    Σ_prop_path (λ row. ∥∥₁_prop)
    (∥∥₁_elim a.1 set (λ x. ∥∥₁_elim b.1 set (λ y. one_row_at Is item w x.0 y.0 a.0 b.0 (x.2 ∙ sym y.2) x.1 y.1)))

pub string_item : IsOneItem HasString
string_item = record {
  one = record { same = λ w a b u v is other. (is.1 ∙ sym other.1, is.2 ∙ sym other.2) };
  moving = record { on = λ w a v is. let less = ap left is.2 in let room = is.0.0 in omega (arith, less, room) };
  ends = λ w a v is. ap (λ (x : Window). x.end) is.2;
}

pub strings_once : (w : Window) (end : ℕ) → IsProp (IsRowTo HasString w end)
strings_once = reached_once string_code HasString string_item
