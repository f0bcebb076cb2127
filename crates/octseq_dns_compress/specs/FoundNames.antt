-- Looking up labels among names that are kept.
use Rattle.std.proofs.Common.{◌≡◌, ℕ, Bool, true, false, Option, Some, None, List, [], ◌∷◌, refl, IsTrue, is_some, ◌⊎◌}
use Rattle.std.proofs.Common.{inl, inr, sym, ap, ◌∙◌, true≢false}
use Rattle.std.proofs.lemmas.Cmp.{lists_total, nat_list_cmp_total, eq_by_cmp_equiv}
use Rattle.std.specs.Cmp.{IsTotalOrder, Equal-is}
use Rattle.std.specs.FinMap.{get, insert, get-insert, IsAntisymmetric, slice_cmp-IsAntisymmetric}
use Rattle.std.specs.FinMap.{nat_cmp-IsAntisymmetric}
use Rattle.std.specs.Ordering.{eq_by_cmp}
use Rattle.octseq_dns_compress.specs.Names.{Names, Place, labels_cmp, is_there}

-- ---- lemmas: proved below this line, so what the words mean is read above it

pub labels_total : IsTotalOrder labels_cmp
labels_total = lists_total nat_list_cmp_total

pub labels_alike : IsAntisymmetric labels_cmp
labels_alike = slice_cmp-IsAntisymmetric (slice_cmp-IsAntisymmetric nat_cmp-IsAntisymmetric)

-- labels don't test as equal to others
tested : (labels others : List (List ℕ)) (reported : Bool) → eq_by_cmp labels_cmp labels others ≡ reported
    → ¬ (labels ≡ others) → reported ≡ false
tested labels others true is other =
    absurd (other (labels_alike labels others ((Equal-is (labels_cmp labels others)).0 is)))
tested labels others false is other = refl

-- a name that was inserted is found
pub get_new : (names : Names) (labels : List (List ℕ)) (place : Place)
    → get (insert names labels place) labels ≡ Some place
get_new names labels place =
    rw (get-insert labels_total names labels place labels, (eq_by_cmp_equiv labels_total).refl labels)

-- the lookups of others don't change
pub get_other : (names : Names) (labels others : List (List ℕ)) (place : Place) → ¬ (others ≡ labels)
    → get (insert names labels place) others ≡ get names others
get_other names labels others place other =
    rw (get-insert labels_total names labels place others, tested others labels _ refl other)

-- ---- whether labels are there

-- labels with the same lookup in two tables are there in both or in neither
pub alike_there : (names others : Names) (labels : List (List ℕ)) → get names labels ≡ get others labels
    → is_there names labels ≡ is_there others labels
alike_there names others [] same = refl
alike_there names others (label ∷ labels) same = ap is_some same

found_place : (found : Option Place) → IsTrue (is_some found) → (place : Place) × (found ≡ Some place)
found_place (Some place) some = (place, refl)
found_place None some = absurd (true≢false (sym some))

-- labels that are there have a place
pub place_there : (names : Names) (label : List ℕ) (labels : List (List ℕ)) → IsTrue (is_there names (label ∷ labels))
    → (place : Place) × (get names (label ∷ labels) ≡ Some place)
place_there names label labels there = found_place (get names (label ∷ labels)) there

-- lookups that find the same places are equal
pub found_alike : (a b : Option Place) → ((place : Place) → a ≡ Some place → b ≡ Some place)
    → ((place : Place) → b ≡ Some place → a ≡ Some place) → a ≡ b
found_alike (Some place) b on back = sym (on place refl)
found_alike None (Some place) on back = back place refl
found_alike None None on back = refl

-- a lookup that can find nothing finds nothing
pub none_found : (a : Option Place) → ((place : Place) → ¬ (a ≡ Some place)) → a ≡ None
none_found (Some place) never = absurd (never place refl)
none_found None never = refl

-- a lookup that finds a place isn't `None`
pub some_or_none : (a : Option Place) (place : Place) → a ≡ Some place → ¬ (a ≡ None)
some_or_none a place some none = true≢false (ap is_some (sym some ∙ none))

-- labels are equal or they differ
same_or_other : (labels others : List (List ℕ)) → (labels ≡ others) ⊎ ¬ (labels ≡ others)
same_or_other labels others = by_test (eq_by_cmp labels_cmp labels others) refl where
  by_test : (reported : Bool) → eq_by_cmp labels_cmp labels others ≡ reported → (labels ≡ others) ⊎ ¬ (labels ≡ others)
  by_test true is = inl (labels_alike labels others ((Equal-is (labels_cmp labels others)).0 is))
  by_test false is = inr (λ same. true≢false
      (sym (ap (eq_by_cmp labels_cmp labels) (sym same) ∙ (eq_by_cmp_equiv labels_total).refl labels) ∙ is))

-- what is found after a name is inserted is that name, or was found before
pub put_cases : (names : Names) (labels : List (List ℕ)) (place : Place) (others : List (List ℕ)) (other : Place)
    → get (insert names labels place) others ≡ Some other
    → ((others ≡ labels) × (other ≡ place)) ⊎ (get names others ≡ Some other)
put_cases names labels place others other found = by_name (same_or_other others labels) where
  place_or : Option Place → Place
  place_or (Some place) = place
  place_or None = other

  by_name : (others ≡ labels) ⊎ ¬ (others ≡ labels)
      → ((others ≡ labels) × (other ≡ place)) ⊎ (get names others ≡ Some other)
  by_name (inl same) = inl (
    same,
    ap place_or (sym found ∙ ap (get (insert names labels place)) same ∙ get_new names labels place),
  )
  by_name (inr apart) = inr (sym (get_other names labels others place apart) ∙ found)
