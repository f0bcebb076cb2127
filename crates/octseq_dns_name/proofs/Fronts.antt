-- Labels that begin or end with others.
use Rattle.std.proofs.Common.{◌≡◌, ℕ, ◌+◌, List, [], ◌∷◌, ◌++◌, length, take, drop, refl, sym, ap}
use Rattle.std.proofs.Common.{◌∙◌, ◌↔◌, subst, arith}
use Rattle.std.proofs.lemmas.List.{length-append, length-map, map-append, drop-map, take-append-drop}
use Rattle.std.proofs.Math.Seq.{drop-append_seam}
use Rattle.octseq_dns_name.specs.Order.{lower_label, lower_labels}
use Rattle.octseq_dns_name.specs.Relatives.{NameEndsWith, NameStartsWith}

-- ---- the first labels

-- any labels begin with no labels
pub starts_none : (labels : List (List ℕ)) → NameStartsWith labels []
starts_none labels = (lower_labels labels, refl)

-- with equal labels in front of both, nothing changes
pub starts_more : (label other : List ℕ) (labels others : List (List ℕ)) → lower_label label ≡ lower_label other
    → NameStartsWith labels others ↔ NameStartsWith (label ∷ labels) (other ∷ others)
starts_more label other labels others same = (
  λ (rest, is). (rest, ap (λ l. l ∷ lower_labels labels) same ∙ ap (λ l. lower_label other ∷ l) is),
  λ (rest, is). (rest, ap (drop 1) is),
)

-- ---- the last labels

-- labels end with others if and only if the last ones, as many as the others, are equal to them
pub ends_as : (labels others : List (List ℕ)) (k : ℕ) → length labels ≡ k + length others
    → (lower_labels (drop k labels) ≡ lower_labels others) ↔ NameEndsWith labels others
ends_as labels others k size = (
  λ same. (
    lower_labels (take k labels),
    ap lower_labels (sym (take-append-drop k labels)) ∙ map-append lower_label (take k labels) (drop k labels)
        ∙ ap (λ l. lower_labels (take k labels) ++ l) same,
  ),
  λ (front, is).
      let all = ap length is ∙ length-append front (lower_labels others) in
      let one = length-map labels lower_label in
      let two = length-map others lower_label in
      let many : k ≡ length front = omega (arith, all, one, two, size) in
      sym (drop-map lower_label k labels) ∙ ap (λ n. drop n (lower_labels labels)) many
      ∙ ap (drop (length front)) is ∙ drop-append_seam front (lower_labels others),
)

-- ---- a walk over both

-- it goes on after equal labels
pub starts_on : {P : Type 0} (label other : List ℕ) (labels others more rest : List (List ℕ))
    → labels ≡ label ∷ more → others ≡ other ∷ rest → lower_label label ≡ lower_label other
    → NameStartsWith labels others ↔ P → NameStartsWith more rest ↔ P
starts_on label other labels others more rest labels_are others_are same so_far =
    let on = starts_more label other more rest same in (
      λ is. so_far.0 (subst (λ l. NameStartsWith l others) (sym labels_are)
          (subst (NameStartsWith (label ∷ more)) (sym others_are) (on.0 is))),
      λ holds. on.1 (subst (NameStartsWith (label ∷ more)) others_are
          (subst (λ l. NameStartsWith l others) labels_are (so_far.1 holds))),
    )

-- and ends with the others
pub starts_ended : {P : Type 0} (labels others : List (List ℕ)) → others ≡ [] → NameStartsWith labels others ↔ P → P
starts_ended labels others none so_far = so_far.0 (subst (NameStartsWith labels) (sym none) (starts_none labels))
