-- The laws of comparisons: names are equal if and only if they compare as equal, and equal names are hashed alike.
use Rattle.std.specs.Prelude.{◌≡◌, ℕ, IsTrue, nat_eq, List, [], ◌∷◌, ◌++◌, reverse}
use Rattle.std.proofs.Common.{refl, sym, ap, ◌∙◌}
use Rattle.std.proofs.lemmas.List.{reverse-reverse}
use Rattle.std.specs.Bool.{Decides, one_answer}
use Rattle.std.specs.Cmp.{IsEquivalence, IsTotalOrder, on_equiv, on_total, nat_eq_equiv}
use Rattle.std.specs.Cmp.Lexicographic.{lists_equiv, lists_total, nat_list_cmp_total, pointwise, pointwise_decides}
use Rattle.std.specs.Cmp.Lexicographic.{bytes_decides, slice_cmp, lists_ties, texts_ties}
use Rattle.std.specs.Hash as fed
use Rattle.std.specs.List.{flat_map}
use Rattle.std.specs.Ordering.{nat_cmp, is_eq}
use Rattle.octseq_dns_name.specs.Order.{canonical, lower_label, lower_labels, label_eq, label_writes, name_eq, name_cmp}
use Rattle.octseq_dns_name.specs.Order.{name_writes}

-- ---- lemmas: proved below this line, so what the words mean is read above it

-- the test of equal labels decides whether lists are equal
labels_decide : (xs ys : List (List ℕ)) → Decides (pointwise (pointwise nat_eq) xs ys) (xs ≡ ys)
labels_decide = pointwise_decides bytes_decides

-- lists that are equal in reverse are equal
reversed : (xs ys : List (List ℕ)) → reverse xs ≡ reverse ys → xs ≡ ys
reversed xs ys same = sym (reverse-reverse xs) ∙ ap reverse same ∙ reverse-reverse ys

pub name_decides : (labels others : List (List ℕ))
    → Decides (name_eq labels others) (lower_labels labels ≡ lower_labels others)
name_decides labels others = labels_decide (lower_labels labels) (lower_labels others)

lists_tie : (xs ys : List (List ℕ))
    → pointwise (pointwise nat_eq) xs ys ≡ is_eq (slice_cmp (slice_cmp nat_cmp) (reverse xs) (reverse ys))
lists_tie xs ys =
    one_answer (pointwise (pointwise nat_eq) xs ys) (pointwise (pointwise nat_eq) (reverse xs) (reverse ys))
    (labels_decide xs ys) (
      λ reported. reversed xs ys ((labels_decide (reverse xs) (reverse ys)).0 reported),
      λ same. (labels_decide (reverse xs) (reverse ys)).1 (ap reverse same),
    )
    ∙ lists_ties (slice_cmp nat_cmp) texts_ties (reverse xs) (reverse ys)

pub name_ties : (labels others : List (List ℕ)) → name_eq labels others ≡ is_eq (name_cmp labels others)
name_ties labels others = lists_tie (lower_labels labels) (lower_labels others)

pub name_eq_equiv : IsEquivalence name_eq
name_eq_equiv = on_equiv lower_labels (lists_equiv (lists_equiv nat_eq_equiv))

pub name_cmp_total : IsTotalOrder name_cmp
name_cmp_total = on_total canonical (lists_total nat_list_cmp_total)

-- the labels in lower case decide what is hashed
writes_lower : (labels : List (List ℕ))
    → flat_map label_writes labels ≡ flat_map (fed.slice fed.u8) (lower_labels labels)
writes_lower [] = refl
writes_lower (label ∷ labels) = ap (λ more. label_writes label ++ more) (writes_lower labels)

pub names_alike : (labels others : List (List ℕ)) → IsTrue (name_eq labels others)
    → name_writes labels ≡ name_writes others
names_alike labels others reported =
    let same = (labels_decide (lower_labels labels) (lower_labels others)).0 reported in
    ap (λ writes. writes ++ label_writes []) (writes_lower labels ∙ ap (flat_map (fed.slice fed.u8)) same
    ∙ sym (writes_lower others))

pub labels_alike : (label other : List ℕ) → IsTrue (label_eq label other) → label_writes label ≡ label_writes other
labels_alike label other reported = ap (fed.slice fed.u8)
    ((bytes_decides (lower_label label) (lower_label other)).0 reported)
