-- The parent of a name: what follows its first label is a name.
use Rattle.std.proofs.Common.{◌≡◌, ℕ, ◌<◌, ◌≤◌, List, [], ◌∷◌, sym, ap, ◌∙◌, subst, arith, ◌+◌, length, refl}
use Rattle.std.proofs.Math.Logic.{∥∥₁_elim}
use Rattle.octseq.specs.Window.{Window, at}
use Rattle.octseq_dns_name.specs.Name.{HasLabels, IsName, wire_length}
use Rattle.octseq_dns_name.specs.NextLabel.{NextLabel}
use Rattle.octseq_dns_name.specs.OneName.{at_label, at_pointer, one_has_labels, one_labels, Named, named_once}
use Rattle.octseq_dns_name.specs.Relatives.{suffixes}
use Rattle.octseq_dns_name.specs.Wire.{AreLabels}
use Rattle.octseq_dns_name.proofs.Names.{Taken, named_as}

-- what is there in a part that began here is there in one that began later
wider : (start later : ℕ) (w v : Window) (labels : List (List ℕ)) (pointers : ℕ) → start ≤ later
    → HasLabels start w labels pointers v → HasLabels later w labels pointers v
wider start later w v labels pointers le (HasLabels.root has) = HasLabels.root has
wider start later w v labels pointers le (HasLabels.label {u = u} {labels = more} has rest) =
    HasLabels.label has (wider start later u v more pointers le rest)
wider start later w v labels pointers le (HasLabels.pointer {to = to} {u = u} has rest) =
    let before = has.before in
    let before_later : to < later = omega (arith, before, le) in
    HasLabels.pointer
    (record { room = has.room; mark = has.mark; place = has.place; before = before_later; after = has.after }) rest

-- the rest after the next label has no more pointers than the whole
few_after : (start : ℕ) (w place : Window) (began : ℕ) (on end last : Window) (labels more : List (List ℕ))
    (pointers fewer : ℕ) → NextLabel start w place began on → HasLabels start w labels pointers end
    → HasLabels began on more fewer last → fewer ≤ pointers
few_after start w place began on end last labels more pointers fewer (NextLabel.here {l = l} has is) has_labels rest =
    let taken = at_label start w on end l labels pointers has has_labels in
    let same = (one_has_labels start on last end more taken.0 fewer pointers rest taken.2).1 in
    omega (arith, same)
few_after start w place began on end last labels more pointers fewer
    (NextLabel.pointed {to = to} {v = v} has next) has_labels rest =
    let led = at_pointer start w v end to labels pointers has has_labels in
    let is = led.2 in
    let few = few_after to (at to w) place began on led.1 last labels more led.0 fewer next led.4 rest in
    omega (arith, is, few)

-- what follows the first label of a name is a name, with the labels after the first one
name_after : (w place : Window) (began : ℕ) (on end : Window) (l : List ℕ) (labels : List (List ℕ))
    → NextLabel w.position w place began on → Taken w.position w began on l → began ≤ on.position → IsName w labels end
    → (more : List (List ℕ)) × (last : Window) × (labels ≡ l ∷ more) × IsName on more last
name_after w place began on end l labels next takes ordered name =
    let taken = takes labels name.pointers end name.has_labels in
    let size = ap wire_length taken.3 in
    let short = name.short in
    let few = few_after w.position w place began on end taken.2 labels taken.0 name.pointers taken.1 next
    name.has_labels
    taken.4 in
    let most = name.few in (
      taken.0,
      taken.2,
      taken.3,
      record {
        pointers = taken.1;
        has_labels = wider began on.position on taken.2 taken.0 taken.1 ordered taken.4;
        short = omega (arith, size, short);
        few = omega (arith, few, most);
      },
    )

-- The next label of the name at a window's position is in the window `place`, and the rest of the name is at the
-- position of `on`, in a part that began at `began`.
pub record Passes (w place : Window) (began : ℕ) (on : Window) (l : List ℕ) : Type 0 where
  pub next : NextLabel w.position w place began on
  pub takes : Taken w.position w began on l
  pub ordered : began ≤ on.position

-- so it is if the reading began at the window's position
pub passes_from : (w place : Window) (start began : ℕ) (on : Window) (l : List ℕ) → start ≡ w.position
    → NextLabel start w place began on → Taken start w began on l → began ≤ on.position → Passes w place began on l
passes_from w place start began on l is next takes ordered = record {
  next = subst (λ s. NextLabel s w place began on) is next;
  takes = subst (λ s. Taken s w began on l) is takes;
  ordered = ordered;
}

-- a parent keeps its labels
pub parent_named : (w place : Window) (began : ℕ) (on : Window) (l : List ℕ) (named : Named w)
    → Passes w place began on l → Named on
parent_named w place began on l named passes = ∥∥₁_elim named.1 (named_once on) (λ x.
    let after = name_after w place began on x.0 l named.0 passes.next passes.takes passes.ordered x.1 in
    (after.0, ∣ (after.1, after.3) ∣₁))

-- and they are the labels after the first one
pub parent_labels : (w place : Window) (began : ℕ) (on : Window) (l : List ℕ) (named : Named w) (parent : Named on)
    → Passes w place began on l → named.0 ≡ l ∷ parent.0
parent_labels w place began on l named parent passes =
    ∥∥₁_elim named.1 (one_labels named.0 (l ∷ parent.0)) (λ x.
    let after = name_after w place began on x.0 l named.0 passes.next passes.takes passes.ordered x.1 in
    after.2 ∙ ap (λ more. l ∷ more) (named_as on after.1 after.0 parent after.3))

-- if no label is next, there is none
pub parent_none : (w : Window) (start : ℕ) (named : Named w) → start ≡ w.position
    → ((labels : List (List ℕ)) (pointers : ℕ) (end : Window) → HasLabels start w labels pointers end → labels ≡ [])
    → named.0 ≡ []
parent_none w start named is none = ∥∥₁_elim named.1 (one_labels named.0 []) (λ x.
    none named.0 x.1.pointers x.0
    (subst (λ s. HasLabels s w named.0 x.1.pointers x.0) (sym is) x.1.has_labels))

-- ---- suffixes

-- a label has an octet, and one for its length
few_labels : (labels : List (List ℕ)) → AreLabels labels → length labels + length labels + 1 ≤ wire_length labels
few_labels [] are = omega arith
few_labels (label ∷ labels) are =
    let some = are.0 in let so_far = few_labels labels are.2 in omega (arith, some, so_far)

-- a name has as many suffixes as labels, and the root
suffix_count : (labels : List (List ℕ)) → length (suffixes labels) ≡ length labels + 1
suffix_count [] = refl
suffix_count (label ∷ labels) = let so_far = suffix_count labels in omega (arith, so_far)

-- so at most 128
pub few_suffixes : (labels : List (List ℕ)) → AreLabels labels → wire_length labels ≤ 255
    → length (suffixes labels) ≤ 128
few_suffixes labels are short =
    let few = few_labels labels are in let count = suffix_count labels in omega (arith, few, count, short)
