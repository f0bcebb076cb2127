-- How a name is read piece by piece: what was read, what is ahead, and when there is no name.
use Rattle.std.proofs.Common.{◌≡◌, ℕ, suc, ◌+◌, ◌<◌, ◌≤◌, List, [], ◌∷◌, ◌++◌, length, Option, Some, None, refl, sym}
use Rattle.std.proofs.Common.{ap, ◌∙◌, subst, append_assoc, length-append, arith}
use Rattle.std.proofs.Math.Logic.{∥∥₁_prop, ∥∥₁_elim}
use Rattle.std.specs.Coded.{le_prop}
use Rattle.std.proofs.lemmas.List.{append-nil}
use Rattle.octseq.specs.Window.{Window, left, at}
use Rattle.octseq_dns_name.specs.Name.{HasRoot, HasLabel, HasPointer, HasLabels, IsName, wire_length}
use Rattle.octseq_dns_name.specs.NameFormat.{has_labels_takes}
use Rattle.octseq_dns_name.specs.OneName.{at_label, at_pointer, one_has_labels, one_labels, one_name, Named, Ahead}
use Rattle.octseq_dns_name.specs.OneName.{ahead_once}
use Rattle.octseq_dns_name.specs.Pass.{LeadsTo, NameReading}
use Rattle.octseq_dns_name.specs.Piece.{Piece, HasPiece, end_of_name}

-- ---- what is ahead

-- if there is no piece, there are no labels
pub no_piece : (start : ℕ) (w x : Window) (labels : List (List ℕ)) (pointers : ℕ)
    → ((p : Piece) (v : Window) → HasPiece start w p v → ⊥) → HasLabels start w labels pointers x → ⊥
no_piece start w x labels pointers none (HasLabels.root has) = none Piece.root x has
no_piece start w x labels pointers none (HasLabels.label {u = u} {l = l} has rest) = none (Piece.label l) u has
no_piece start w x labels pointers none (HasLabels.pointer {to = to} has rest) = none (Piece.pointer to) x has

-- nothing was read yet
pub leads_none : (start : ℕ) (w : Window) → LeadsTo start w start w [] 0 None
leads_none start w = record {
  forward = λ more fewer u has_labels. let same : fewer ≡ 0 + fewer = omega arith in
      subst (λ n. HasLabels start w more n u) same has_labels;
  backward = λ all count x has_labels. record {
    more = all;
    fewer = count;
    u = x;
    has_labels = has_labels;
    labels_are = refl;
    pointers_are = omega arith;
    end_is = refl;
  };
}

-- one more label
pub leads_past_label : (first : ℕ) (w : Window) (start : ℕ) (v u : Window) (labels : List (List ℕ)) (pointers : ℕ)
    (l : List ℕ) (after : Option Window)
    → LeadsTo first w start v labels pointers after → HasLabel v l u
    → LeadsTo first w start u (labels ++ l ∷ []) pointers after
leads_past_label first w start v u labels pointers l after so_far has = record {
  forward = λ more fewer x has_labels. subst (λ all. HasLabels first w all (pointers + fewer) (end_of_name after x))
      (sym (append_assoc labels (l ∷ []) more))
      (so_far.forward (l ∷ more) fewer x (HasLabels.label has has_labels));
  backward = λ all count x has_labels.
      let before = so_far.backward all count x has_labels in
      let on = at_label start v u before.u l before.more before.fewer has before.has_labels in
      record {
        more = on.0;
        fewer = before.fewer;
        u = before.u;
        has_labels = on.2;
        labels_are = before.labels_are ∙ ap (λ more. labels ++ more) on.1 ∙ sym (append_assoc labels (l ∷ []) on.0);
        pointers_are = before.pointers_are;
        end_is = before.end_is;
      };
}

-- one more pointer: the first one says where the name ends
pub leads_past_pointer : (first : ℕ) (w : Window) (start : ℕ) (v u : Window) (labels : List (List ℕ)) (pointers : ℕ)
    (to : ℕ) (after : Option Window)
    → LeadsTo first w start v labels pointers after → HasPointer start v to u
    → LeadsTo first w to (at to v) labels (pointers + 1) (Some (end_of_name after u))
leads_past_pointer first w start v u labels pointers to after so_far has = record {
  forward = λ more fewer x has_labels.
      let same : pointers + suc fewer ≡ pointers + 1 + fewer = omega arith in
      subst (λ n. HasLabels first w (labels ++ more) n (end_of_name after u)) same
      (so_far.forward more (suc fewer) u (HasLabels.pointer has has_labels));
  backward = λ all count x has_labels.
      let before = so_far.backward all count x has_labels in
      let on = at_pointer start v u before.u to before.more before.fewer has before.has_labels in
      let fewer = on.2 in
      let counted = before.pointers_are in
      record {
        more = before.more;
        fewer = on.0;
        u = on.1;
        has_labels = on.4;
        labels_are = before.labels_are;
        pointers_are = omega (arith, fewer, counted);
        end_is = before.end_is ∙ ap (end_of_name after) on.3;
      };
}

-- it ends at the root
pub leads_to_root : (first : ℕ) (w : Window) (start : ℕ) (v u : Window) (labels : List (List ℕ)) (pointers : ℕ)
    (after : Option Window)
    → LeadsTo first w start v labels pointers after → HasRoot v u
    → HasLabels first w labels pointers (end_of_name after u)
leads_to_root first w start v u labels pointers after so_far has =
    let same : pointers + 0 ≡ pointers = omega arith in
    subst (λ n. HasLabels first w labels n (end_of_name after u)) same
    (subst (λ all. HasLabels first w all (pointers + 0) (end_of_name after u)) (append-nil labels)
    (so_far.forward [] 0 u (HasLabels.root has)))

-- ---- lengths

-- the wire length of labels followed by more, which share one root
pub wire_append : (labels more : List (List ℕ))
    → wire_length (labels ++ more) + 1 ≡ wire_length labels + wire_length more
wire_append [] more = omega arith
wire_append (l ∷ labels) more = let so_far = wire_append labels more in omega (arith, so_far)

-- there is at least the root
pub wire_some : (labels : List (List ℕ)) → 1 ≤ wire_length labels
wire_some [] = omega arith
wire_some (l ∷ labels) = let some = wire_some labels in omega (arith, some)

-- a name has fewer labels than octets
pub label_count : (labels : List (List ℕ)) → length labels + 1 ≤ wire_length labels
label_count [] = omega arith
label_count (l ∷ labels) = let so_far = label_count labels in omega (arith, so_far)

-- a name takes at least one octet
pub name_takes : (w v : Window) (labels : List (List ℕ)) → IsName w labels v → left v + 1 ≤ left w
name_takes w v labels name = has_labels_takes w.position w v labels name.pointers name.has_labels

-- ---- the reader

-- a reading begins with no labels, whose wire form is the root's one octet, with no pointer and no turn
pub begun : (w : Window) (old : ℕ) → NameReading w w.position w 1 0 None old old
begun w old = record { labels = []; read = leads_none w.position w; size_is = refl; counted = omega arith }

-- the reading goes on after a label, whose octets and the one of its length are counted
pub with_label : (w : Window) (start : ℕ) (v u : Window) (size made pointers : ℕ) (after : Option Window) (l : List ℕ)
    (old before new : ℕ) → NameReading w start v size pointers after old before
    → HasLabel v l u → made ≡ size + (1 + length l) → new ≡ before + 1
    → NameReading w start u made pointers after old new
with_label w start v u size made pointers after l old before new so_far has is tick = record {
  labels = so_far.labels ++ l ∷ [];
  read = leads_past_label w.position w start v u so_far.labels pointers l after so_far.read has;
  size_is = let both = wire_append so_far.labels (l ∷ []) in let before = so_far.size_is in
      omega (arith, both, before, is);
  counted = let counted = so_far.counted in omega (arith, length-append so_far.labels (l ∷ []), counted, tick);
}

-- the reading goes on where a pointer leads, with one more pointer and no more octets
pub with_pointer : (w : Window) (start : ℕ) (v u : Window) (size pointers : ℕ) (after : Option Window) (to : ℕ)
    (old before new : ℕ) → NameReading w start v size pointers after old before
    → HasPointer start v to u → new ≡ before + 1
    → NameReading w to (at to v) size (pointers + 1) (Some (end_of_name after u)) old new
with_pointer w start v u size pointers after to old before new so_far has tick = record {
  labels = so_far.labels;
  read = leads_past_pointer w.position w start v u so_far.labels pointers to after so_far.read has;
  size_is = so_far.size_is;
  counted = let counted = so_far.counted in omega (arith, counted, tick);
}

-- ---- what a name and its labels keep

-- the labels that it keeps are those of the name
pub named_as : (w end : Window) (labels : List (List ℕ)) (named : Named w) → IsName w labels end → labels ≡ named.0
named_as w end labels named name =
    ∥∥₁_elim named.1 (one_labels labels named.0) (λ x. (one_name w end x.0 labels named.0 name x.1).0)

-- the labels that an iterator keeps are those that are there
pub ahead_is : (start : ℕ) (w end : Window) (labels : List (List ℕ)) (pointers : ℕ) (ahead : Ahead start w)
    → HasLabels start w labels pointers end → ahead.0 ≡ labels
ahead_is start w end labels pointers ahead has_labels =
    ∥∥₁_elim ahead.1 (one_labels ahead.0 labels)
    (λ x. (one_has_labels start w x.1 end ahead.0 labels x.0 pointers x.2 has_labels).0)

-- a label was taken, and the rest is after it
abbrev pub Taken : ℕ → Window → ℕ → Window → List ℕ → Type 0
Taken start w on v l = (labels : List (List ℕ)) (pointers : ℕ) (end : Window) → HasLabels start w labels pointers end
    → (more : List (List ℕ)) × (fewer : ℕ) × (last : Window) × (labels ≡ l ∷ more) × HasLabels on v more fewer last

-- no label was left
pub none_ahead : (start : ℕ) (w : Window) (ahead : Ahead start w)
    → ((labels : List (List ℕ)) (pointers : ℕ) (end : Window) → HasLabels start w labels pointers end → labels ≡ [])
    → ahead.0 ≡ []
none_ahead start w ahead none = ∥∥₁_elim ahead.1 (one_labels ahead.0 []) (λ x. none ahead.0 x.0 x.1 x.2)

-- one was, and it is the first
pub then_ahead : (start : ℕ) (w : Window) (on : ℕ) (v : Window) (l : List ℕ) (ahead : Ahead start w)
    (after : Ahead on v) → Taken start w on v l → ahead.0 ≡ l ∷ after.0
then_ahead start w on v l ahead after takes = ∥∥₁_elim ahead.1 (one_labels ahead.0 (l ∷ after.0)) (λ x.
    let taken = takes ahead.0 x.0 x.1 x.2 in
    taken.3 ∙ ap (λ more. l ∷ more) (sym (ahead_is on v taken.2 taken.0 taken.1 after taken.4)))

-- the rest are a fact too
pub more_ahead : (start : ℕ) (w : Window) (on : ℕ) (v : Window) (l : List ℕ) (ahead : Ahead start w)
    → Taken start w on v l → (after : Ahead on v) × (ahead.0 ≡ l ∷ after.0)
more_ahead start w on v l ahead takes =
    let after : Ahead on v = ∥∥₁_elim ahead.1 (ahead_once on v) (λ x. let taken = takes ahead.0 x.0 x.1 x.2 in
    (taken.0, ∣ (taken.1, taken.2, taken.4) ∣₁)) in
    (after, then_ahead start w on v l ahead after takes)

-- and fewer
pub shorter : (l : List ℕ) (labels more : List (List ℕ)) → labels ≡ l ∷ more → length more < length labels
shorter l labels more is = let lengths = ap length is in omega (arith, lengths)

-- the labels of a name are ahead at its start
pub ahead_of_name : (w : Window) → (named : Named w)
    → ∥ ((pointers : ℕ) × (end : Window) × HasLabels w.position w named.0 pointers end) ∥₁ × (wire_length named.0 ≤ 255)
ahead_of_name w named = (
  ∥∥₁_elim named.1 ∥∥₁_prop (λ x. ∣ (x.1.pointers, x.0, x.1.has_labels) ∣₁),
  ∥∥₁_elim named.1 le_prop (λ x. x.1.short),
)
