-- At most one name is at a place, with one end, so a value may keep its labels as a fact.
use Rattle.std.specs.Prelude.{◌≡◌, ℕ, suc, List, [], ◌∷◌, refl}
use Rattle.std.proofs.Common.{sym, ap, ◌∙◌, subst, arith}
use Rattle.std.specs.Coded.{Coded-set, coded_list, coded_ℕ}
use Rattle.std.proofs.Math.Logic.{∥∥₁_prop, ∥∥₁_elim}
use mathlib.Core.HLevel.{Σ_prop_path}
use Rattle.octseq.specs.Window.{Window, at}
use Rattle.octseq_dns_name.specs.Name.{HasRoot, HasLabel, HasPointer, HasLabels, IsName}

-- the labels of the name that is at a window's position
abbrev pub Named : Window → Type 0
Named w = (labels : List (List ℕ)) × ∥ ((end : Window) × IsName w labels end) ∥₁

-- the labels at a window's position, in a part of a name that began at `start`
abbrev pub Ahead : ℕ → Window → Type 0
Ahead start w = (labels : List (List ℕ))
    × ∥ ((pointers : ℕ) × (end : Window) × HasLabels start w labels pointers end) ∥₁

-- ---- lemmas: proved below this line, so what the words mean is read above it

-- the octet decides which of the three is there
pub no_label_at_root : {w u v : Window} {l : List ℕ} → HasRoot w u → HasLabel w l v → ⊥
no_label_at_root here other = let zero = here.zero in let some = other.some in omega (arith, zero, some)

pub no_pointer_at_root : {start to : ℕ} {w u v : Window} → HasRoot w u → HasPointer start w to v → ⊥
no_pointer_at_root here other = let zero = here.zero in let mark = other.mark in omega (arith, zero, mark)

pub no_pointer_at_label : {start to : ℕ} {w u v : Window} {l : List ℕ} → HasLabel w l u → HasPointer start w to v → ⊥
no_pointer_at_label here other = let short = here.short in let mark = other.mark in omega (arith, short, mark)

-- there are no labels at the root
pub at_root : (start : ℕ) (w u x : Window) (labels : List (List ℕ)) (pointers : ℕ) → HasRoot w u
    → HasLabels start w labels pointers x
    → (labels ≡ []) × (pointers ≡ 0) × (x ≡ u)
at_root start w u x labels pointers has (HasLabels.root other) = (refl, refl, other.after ∙ sym has.after)
at_root start w u x labels pointers has (HasLabels.label other rest) = absurd (no_label_at_root has other)
at_root start w u x labels pointers has (HasLabels.pointer other rest) = absurd (no_pointer_at_root has other)

-- the name goes on after a label
pub at_label : (start : ℕ) (w u x : Window) (l : List ℕ) (labels : List (List ℕ)) (pointers : ℕ) → HasLabel w l u
    → HasLabels start w labels pointers x
    → (more : List (List ℕ)) × (labels ≡ l ∷ more) × HasLabels start u more pointers x
at_label start w u x l labels pointers has (HasLabels.root other) = absurd (no_label_at_root other has)
at_label start w u x l labels pointers has (HasLabels.label {labels = more} other rest) = (
  more,
  ap (λ l. l ∷ more) (other.octets ∙ sym has.octets),
  subst (λ v. HasLabels start v more pointers x) (other.after ∙ sym has.after) rest,
)
at_label start w u x l labels pointers has (HasLabels.pointer other rest) = absurd (no_pointer_at_label has other)

-- and a pointer leads to the rest of it
pub at_pointer : (start : ℕ) (w u x : Window) (to : ℕ) (labels : List (List ℕ)) (pointers : ℕ) → HasPointer start w to u
    → HasLabels start w labels pointers x
    → (fewer : ℕ) × (v : Window) × (pointers ≡ suc fewer) × (x ≡ u) × HasLabels to (at to w) labels fewer v
at_pointer start w u x to labels pointers has (HasLabels.root other) = absurd (no_pointer_at_root other has)
at_pointer start w u x to labels pointers has (HasLabels.label other rest) = absurd (no_pointer_at_label other has)
at_pointer start w u x to labels pointers has (HasLabels.pointer {pointers = fewer} {u = v} other rest) = (
  fewer,
  v,
  refl,
  other.after ∙ sym has.after,
  subst (λ on. HasLabels on (at on w) labels fewer v) (other.place ∙ sym has.place) rest,
)

-- at most one list of labels is at a place, with one end
pub one_has_labels : (start : ℕ) (w u v : Window) (labels others : List (List ℕ)) (pointers count : ℕ)
    → HasLabels start w labels pointers u → HasLabels start w others count v
    → (labels ≡ others) × (pointers ≡ count) × (u ≡ v)
one_has_labels start w u v labels others pointers count (HasLabels.root has) other =
    let root = at_root start w u v others count has other in (sym root.0, sym root.1, sym root.2)
one_has_labels start w u v labels others pointers count
    (HasLabels.label {u = x} {l = l} {labels = more} has rest) other =
    let on = at_label start w x v l others count has other in
    let same = one_has_labels start x u v more on.0 pointers count rest on.2 in
    (ap (λ more. l ∷ more) same.0 ∙ sym on.1, same.1, same.2)
one_has_labels start w u v labels others pointers count
    (HasLabels.pointer {to = to} {pointers = fewer} {u = x} has rest) other =
    let on = at_pointer start w u v to others count has other in
    let same = one_has_labels to (at to w) x on.1 labels others fewer on.0 rest on.4 in
    (same.0, ap suc same.1 ∙ sym on.2, sym on.3)

-- at most one name, with one end
pub one_name : (w u v : Window) (labels others : List (List ℕ)) → IsName w labels u → IsName w others v
    → (labels ≡ others) × (u ≡ v)
one_name w u v labels others name other =
    let same = one_has_labels w.position w u v labels others name.pointers other.pointers name.has_labels
    other.has_labels in
    (same.0, same.2)

-- labels are equal in at most one way
pub one_labels : (labels others : List (List ℕ)) → IsProp (labels ≡ others)
one_labels = Coded-set (coded_list (coded_list coded_ℕ))

-- they are a fact
pub named_once : (w : Window) → IsProp (Named w)
named_once w a b = Σ_prop_path (λ labels. ∥∥₁_prop)
    (∥∥₁_elim a.1 (one_labels a.0 b.0) (λ x. ∥∥₁_elim b.1 (one_labels a.0 b.0) (λ y.
    (one_name w x.0 y.0 a.0 b.0 x.1 y.1).0)))

-- they are a fact too
pub ahead_once : (start : ℕ) (w : Window) → IsProp (Ahead start w)
ahead_once start w a b = Σ_prop_path (λ labels. ∥∥₁_prop)
    (∥∥₁_elim a.1 (one_labels a.0 b.0) (λ x. ∥∥₁_elim b.1 (one_labels a.0 b.0) (λ y.
    (one_has_labels start w x.1 y.1 a.0 b.0 x.0 y.0 x.2 y.2).0)))

-- so they are the same wherever they are kept
pub one_ahead : (start : ℕ) (w : Window) (a b : Ahead start w) → a.0 ≡ b.0
one_ahead start w a b = ap (λ x. x.0) (ahead_once start w a b)
