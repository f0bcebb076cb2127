-- Rows that a walk keeps, and rows that are read item by item.
use Rattle.std.proofs.Common.{◌≡◌, ℕ, ◌+◌, ◌<◌, ◌≤◌, ◌*◌, List, [], ◌∷◌, ◌++◌, length, length-append, map, refl}
use Rattle.std.proofs.Common.{sym, ap, ◌∙◌, subst, arith}
use Rattle.std.proofs.Math.Logic.{∥∥₁_elim, ∥∥₁_prop}
use Rattle.std.specs.Coded.{Coded, Coded-set, coded_list}
use mathlib.Core.HLevel.{⊥_prop}
use Rattle.std.proofs.Math.Nat.{mul-le-mul_left}
use Rattle.std.proofs.lemmas.List.Sums.{sum_by_push}
use Rattle.octseq.specs.Window.{Window, left}
use Rattle.octseq_format.specs.Laws.{Relation, NoneAt, IsOne, IsMoving}
use Rattle.octseq_format.specs.Row.{Row, RowTo, Many, Moved, Holds, HoldsTo, row_turns, one_row, one_many, held_once}
use Rattle.octseq_format.specs.Row.{held_to_once}
use Rattle.std.proofs.lemmas.List.{nil_from_length}

-- ---- rows that are read item by item

-- a row doesn't go past an offset without such a value
pub row_ends : {A : Type 0} (Is : Relation A) → IsOne Is → (w u v : Window) (row others : List A)
    → NoneAt Is u → length row < length others → Row Is w row u
    → Row Is w others v → ⊥
row_ends Is one w u v row [] none less a b = omega (arith, less)
row_ends Is one w u v [] (y ∷ others) none less a b = none y b.0 (subst (λ x. Is x y b.0) (sym a) b.1)
row_ends Is one w u v (x ∷ row) (y ∷ others) none less a b =
    row_ends Is one a.0 u v row others none (omega (arith, less)) a.2
    (subst (λ x. Row Is x others v) (sym (one.same w x y a.0 b.0 a.1 b.1).1) b.2)

-- so there are no more of them
pub many_ends : {A : Type 0} (Is : Relation A) → IsOne Is
    → (w u : Window) (taken count : ℕ) (row : List A) → NoneAt Is u → taken < count
    → Many taken Is w row u → NoneAt (Many count Is) w
many_ends Is one w u taken count row none less is others v other =
    let taken = is.0 in let all = other.0 in
    row_ends Is one w u v row others none (omega (arith, less, taken, all)) is.1 other.1

-- one more
pub row_more : {A : Type 0} (Is : Relation A) (w u v : Window) (row : List A) (one : A)
    → Row Is w row u → Is u one v → Row Is w (row ++ one ∷ []) v
row_more Is w u v [] one a is = (v, subst (λ x. Is x one v) a is, refl)
row_more Is w u v (x ∷ row) one a is = (a.0, a.1, row_more Is a.0 u v row one a.2 is)

-- a row of `taken` items, followed by one more
pub many_more : {A : Type 0} (Is : Relation A) (w u v : Window) (taken : ℕ) (row : List A) (one : A)
    → Many taken Is w row u → Is u one v
    → Many (taken + 1) Is w (row ++ one ∷ []) v
many_more Is w u v taken row one a is = (
  length-append row (one ∷ []) ∙ ap (λ n. n + 1) a.0,
  row_more Is w u v row one a.1 is,
)

-- a row of values is also a row of them by another name
pub row_by : {A B : Type 0} (Is : Relation A) (Are : Relation B) (to : A → B)
    → ((w : Window) (a : A) (v : Window) → Is w a v → Are w (to a) v)
    → (w v : Window) (row : List A) → Row Is w row v → Row Are w (map to row) v
row_by Is Are to each w v [] is = is
row_by Is Are to each w v (x ∷ row) is = (is.0, each w x is.0 is.1, row_by Is Are to each is.0 v row is.2)

-- ---- rows that a walk keeps

first_of_row : {A : Type 0} (Is : Relation A) (w v : Window) (row : List A) → 0 < length row
    → Row Is w row v → NoneAt Is w → ⊥
first_of_row Is w v [] some are none = omega (arith, some)
first_of_row Is w v (x ∷ row) some are none = none x are.0 are.1

-- if there are none, the row is empty
pub held_none : {A : Type 0} (code : Coded A) (Is : Relation A) (w : Window) (count : ℕ)
    (held : Holds Is w count) → count ≡ 0 → held.0 ≡ []
held_none code Is w count held zero = ∥∥₁_elim held.1 (Coded-set (coded_list code) held.0 [])
    (λ x. nil_from_length held.0 (x.1.0 ∙ zero))

-- if there are some, the first is there
pub held_not : {A : Type 0} (Is : Relation A) (w : Window) (count : ℕ) (held : Holds Is w count)
    → 0 < count → NoneAt Is w → ⊥
held_not Is w count held some none = ∥∥₁_elim held.1 ⊥_prop (λ x. first_of_row Is w x.0 held.0 (let is = x.1.0 in
    omega (arith, is, some)) x.1.1 none)

-- what follows the first one
rest_of_row : {A : Type 0} (Is : Relation A) → IsOne Is → (w u v : Window) (one : A) (row : List A)
    → Is w one u → 0 < length row → Row Is w row v
    → (more : List A) × (row ≡ one ∷ more) × Row Is u more v
rest_of_row Is single w u v one [] is some are = absurd (omega (arith, some))
rest_of_row Is single w u v one (x ∷ row) is some are =
    let same = single.same w x one are.0 u are.1 is in
    (row, ap (λ x. x ∷ row) same.0, subst (λ w. Row Is w row v) same.1 are.2)

-- the first one, and those after it
pub held_then : {A : Type 0} (code : Coded A) (Is : Relation A) → IsOne Is
    → (w u : Window) (one : A) (count less : ℕ) (held : Holds Is w count)
    (after : Holds Is u less) → Is w one u → count ≡ less + 1 → held.0 ≡ one ∷ after.0
held_then code Is single w u one count less held after is down =
    ∥∥₁_elim held.1 (Coded-set (coded_list code) held.0 (one ∷ after.0)) (λ x.
    let counted = x.1.0 in
    let on = rest_of_row Is single w u x.0 one held.0 is (omega (arith, counted, down)) x.1.1 in
    let lengths = ap length on.1 in
    on.1 ∙ ap (λ more. one ∷ more) (∥∥₁_elim after.1 (Coded-set (coded_list code) on.0 after.0) (λ y.
    let others = y.1.0 in
    (one_row Is single u x.0 y.0 on.0 after.0 (omega (arith, lengths, counted, down, others)) on.2 y.1.1).0)))

-- so those after the first one are there
pub held_more : {A : Type 0} (code : Coded A) (Is : Relation A) → IsOne Is
    → (w u : Window) (one : A) (count less : ℕ) (held : Holds Is w count)
    → Is w one u → count ≡ less + 1 → Holds Is u less
held_more code Is single w u one count less held is down = ∥∥₁_elim held.1 (held_once code Is single u less) (λ x.
    let counted = x.1.0 in
    let on = rest_of_row Is single w u x.0 one held.0 is (omega (arith, counted, down)) x.1.1 in
    let lengths = ap length on.1 in
    (on.0, ∣ (x.0, (omega (arith, lengths, counted, down), on.2)) ∣₁))

-- what is held up to an offset is held
abbrev pub holds_of : {A : Type 0} (Is : Relation A) (w : Window) (count end : ℕ) → HoldsTo Is w count end
    → Holds Is w count
holds_of Is w count end held = (held.0, ∥∥₁_elim held.1 ∥∥₁_prop (λ x. ∣ (x.0, x.1.0) ∣₁))

-- and so are the items after the first, up to the same offset
pub held_to_more : {A : Type 0} (code : Coded A) (Is : Relation A) → IsOne Is
    → (w u : Window) (one : A) (count less end : ℕ) (held : HoldsTo Is w count end)
    → Is w one u → count ≡ less + 1 → HoldsTo Is u less end
held_to_more code Is single w u one count less end held is down =
    ∥∥₁_elim held.1 (held_to_once code Is single u less end) (λ x.
    let counted = x.1.0.0 in
    let on = rest_of_row Is single w u x.0 one held.0 is (omega (arith, counted, down)) x.1.0.1 in
    let lengths = ap length on.1 in
    (on.0, ∣ (x.0, ((omega (arith, lengths, counted, down), on.2), x.1.1)) ∣₁))

-- the items that were read are those that are kept
pub held_as : {A : Type 0} (code : Coded A) (Is : Relation A) → IsOne Is
    → (w end : Window) (count : ℕ) (row : List A) (held : Holds Is w count)
    → Many count Is w row end → row ≡ held.0
held_as code Is one w end count row held is = ∥∥₁_elim held.1 (Coded-set (coded_list code) row held.0)
    (λ x. ((one_many count Is one).same w row held.0 end x.0 is x.1).0)

-- a row has fewer things after its first one than in all
pub fewer : {A : Type 0} (one : A) (row more : List A) → row ≡ one ∷ more → length more < length row
fewer one row more is = let lengths = ap length is in omega (arith, lengths)

-- ---- rows up to the end of a window

-- if octets are left and no such value is there, no row goes on to the end
pub to_ends : {A : Type 0} (Is : Relation A) → IsOne Is → IsMoving Is → (w u v : Window) (row others : List A)
    → NoneAt Is u → 0 < left u → Row Is w row u → Row Is w others v → left v ≡ 0 → ⊥
to_ends Is one moving w u v [] [] none some a b ends =
    let here = ap left a in let there = ap left b in omega (arith, here, there, some, ends)
to_ends Is one moving w u v [] (y ∷ others) none some a b ends = none y b.0 (subst (λ x. Is x y b.0) (sym a) b.1)
to_ends Is one moving w u v (x ∷ row) [] none some a b ends =
    let first = moving.on w x a.0 a.1 in let there = ap left b in omega (arith, first, there, ends)
to_ends Is one moving w u v (x ∷ row) (y ∷ others) none some a b ends =
    to_ends Is one moving a.0 u v row others none some a.2
    (subst (λ x. Row Is x others v) (sym (one.same w x y a.0 b.0 a.1 b.1).1) b.2) ends

-- a row of values that take octets, known to take them
pub row_moved : {A : Type 0} (Is : Relation A) → IsMoving Is → (w v : Window) (row : List A)
    → Row Is w row v → Row (Moved Is) w row v
row_moved Is moving w v [] is = is
row_moved Is moving w v (x ∷ row) is =
    (is.0, (is.1, moving.on w x is.0 is.1), row_moved Is moving is.0 v row is.2)

-- and the other way round
pub row_of_moved : {A : Type 0} (Is : Relation A) (w v : Window) (row : List A)
    → Row (Moved Is) w row v → Row Is w row v
row_of_moved Is w v [] is = is
row_of_moved Is w v (x ∷ row) is = (is.0, is.1.0, row_of_moved Is is.0 v row is.2)

-- ---- turns

-- one more item, and a turn for it
pub row_turns_more : {A : Type 0} (turns : A → ℕ) (row : List A) (one : A)
    → row_turns turns (row ++ one ∷ []) ≡ row_turns turns row + (1 + turns one)
row_turns_more turns row one = sum_by_push (λ a. 1 + turns a) row one

-- one more item takes at least one octet, which pays for its turns
pub turns_more : (base rate before after turns start more : ℕ) → after < before → start ≡ turns + 1
    → more + rate * after ≤ start + base + rate * before
    → more + (base + 1 + rate) * after ≤ turns + (base + 1 + rate) * before
turns_more base rate before after turns start more less tick took =
    let paid : (base + 1) * (after + 1) ≤ (base + 1) * before = mul-le-mul_left (base + 1) (omega (arith, less)) in
    omega (arith, paid, tick, took)

-- values that are there up to the end of a window are a row to the end
pub not_all : {A : Type 0} (Is : Relation A) → IsMoving Is → (w v : Window) (row : List A) → Row Is w row v
    → left v ≡ 0 → NoneAt (RowTo (Moved Is)) w → ⊥
not_all Is moving w v row is ends none = none row v (row_moved Is moving w v row is, ends)
