-- The names that targets belong to. A name is found by its key, so there is only one table of these names.
use Rattle.std.proofs.Common.{◌≡◌, ℕ, Some, None, List, [], ◌∷◌, drop, slice_index_or, IsTrue, refl, sym, ap, ◌∙◌}
use Rattle.std.proofs.Common.{subst, arith}
use Rattle.std.proofs.Math.Logic.{∥∥₁_prop, ∥∥₁_elim}
use Rattle.std.specs.Coded.{Coded, Coded-set, coded_list, coded_ℕ, coded×, code_by}
use Rattle.std.specs.FinMap.{get, code, same_map}
use mathlib.Core.HLevel.{Σ_prop_path}
use Rattle.octseq_dns_compress.specs.TableMatches.{TableMatches, HasTarget, name_offset, target_of}
use Rattle.octseq_dns_compress.specs.FoundNames.{labels_total, labels_alike, alike_there, place_there, found_alike}
use Rattle.octseq_dns_compress.specs.FoundNames.{none_found}
use Rattle.octseq_dns_compress.specs.Key.{key, key_of, HasKeyAt, HasNoKey}
use Rattle.octseq_dns_compress.specs.Names.{Names, Place, at_or_zero, is_there, prefixed}
use Rattle.octseq_dns_compress.specs.declared.table.Target.{Target}

-- the key of a name: the offset of what follows its first label, and that label with its length octet
abbrev pub name_key : Names → List ℕ → List (List ℕ) → List ℕ
name_key names label rest = key (name_offset names rest) (prefixed label)

-- the names that targets belong to
abbrev pub NamesOf : List ℕ → List Target → Type 0
NamesOf octets targets = (names : Names) × ∥ TableMatches octets targets names ∥₁

-- ---- lemmas: proved below this line, so what the words mean is read above it

-- the target of a name has its key
pub key_there : (octets : List ℕ) (targets : List Target) (names : Names) (label : List ℕ) (rest : List (List ℕ))
    (place : Place) (has : HasTarget octets targets names label rest place)
    → HasKeyAt octets targets (name_key names label rest) has.index
key_there octets targets names label rest place has = record {
  within = has.within;
  is = λ d. ap (key_of octets) (has.target_is d) ∙ ap (key (name_offset names rest)) has.label_is;
}

module _ {octets : List ℕ} {targets : List Target} {names : Names} (agrees : TableMatches octets targets names) where
  -- the root isn't at the offset of a name
  root_apart : (label : List ℕ) (labels : List (List ℕ)) → IsTrue (is_there names (label ∷ labels))
      → ¬ (name_offset names [] ≡ name_offset names (label ∷ labels))
  root_apart label labels there same =
      let place = place_there names label labels there in
      let after = (agrees.all label labels place.0 place.1).after_header in
      omega (arith, after, ap at_or_zero agrees.root, ap at_or_zero place.1, same)

  -- names that are there at one offset, or the root, are equal
  one_rest : (labels others : List (List ℕ)) → IsTrue (is_there names labels) → IsTrue (is_there names others)
      → name_offset names labels ≡ name_offset names others → labels ≡ others
  one_rest [] [] there here same = refl
  one_rest [] (label ∷ others) there here same = absurd (root_apart label others here same)
  one_rest (label ∷ labels) [] there here same = absurd (root_apart label labels there (sym same))
  one_rest (label ∷ labels) (other ∷ others) there here same =
      let place = place_there names label labels there in
      let found = place_there names other others here in
      agrees.once (label ∷ labels) (other ∷ others) place.0 found.0 place.1 found.1
      (sym (ap at_or_zero place.1) ∙ same ∙ ap at_or_zero found.1)

  -- a target with the key of a name is the name's target
  pub found : (label : List ℕ) (rest : List (List ℕ)) (index : ℕ) (d : Target) → IsTrue (is_there names rest)
      → HasKeyAt octets targets (name_key names label rest) index
      → (place : Place) × (get names (label ∷ rest) ≡ Some place)
      × (slice_index_or targets index d ≡ target_of names label rest place)
  found label rest index d there has =
      let held = agrees.held index d has.within in
      let mine = agrees.all held.label held.rest held.place held.there in
      let same : name_key names held.label held.rest ≡ name_key names label rest =
      sym (ap (key_of octets) held.target_is ∙ ap (key (name_offset names held.rest)) mine.label_is) ∙ has.is d in
      let same_label : held.label ≡ label = ap (drop 3) same in
      let same_rest : held.rest ≡ rest =
      one_rest held.rest rest mine.more there (ap (λ xs. slice_index_or xs 0 0) same) in (
        held.place,
        rw (← same_label, ← same_rest) held.there,
        rw (← same_label, ← same_rest) held.target_is,
      )

  -- if no target has its key, the name isn't there
  pub missing : (label : List ℕ) (rest : List (List ℕ)) → HasNoKey octets targets (name_key names label rest)
      → get names (label ∷ rest) ≡ None
  missing label rest none =
      none_found (get names (label ∷ rest)) (λ place is.
      let has = agrees.all label rest place is in
      none has.index (key_there octets targets names label rest place has))

-- ---- one table of names
place_code : Coded Place
place_code = code_by (ℕ × ℕ) (coded× coded_ℕ coded_ℕ) (λ p. (p.at, p.pointers))
    (λ c. record { at = c.0; pointers = c.1 }) (λ _. refl)

pub names_code : Coded Names
names_code = code (coded_list (coded_list coded_ℕ)) place_code

-- names are equal in at most one way
names_once : (names others : Names) → IsProp (names ≡ others)
names_once = Coded-set names_code

module _ {octets : List ℕ} {targets : List Target} where
  -- a name of one table is in the other, if what follows its first label has the same place in both
  carried : {names others : Names} → TableMatches octets targets names → TableMatches octets targets others
      → (label : List ℕ) (rest : List (List ℕ)) (place : Place) → get names rest ≡ get others rest
      → get names (label ∷ rest) ≡ Some place → get others (label ∷ rest) ≡ Some place
  carried {names = names} {others = others} agrees other label rest place same is =
      let has = agrees.all label rest place is in
      let d : Target = record { at = 0; next = 0; pointers = 0; digest = 0 } in
      let there = sym (alike_there names others rest same) ∙ has.more in
      let mine = subst (λ next. HasKeyAt octets targets (key next (prefixed label)) has.index) (ap at_or_zero same)
      (key_there octets targets names label rest place has) in
      let it = found other label rest has.index d there mine in
      let both : target_of names label rest place ≡ target_of others label rest it.0 = sym (has.target_is d) ∙ it.2 in
      let one : it.0 ≡ place =
      λ i. record { at = (sym (ap (λ t. t.at) both)) i; pointers = (sym (ap (λ t. t.pointers) both)) i } in
      it.1 ∙ ap Some one

  same_found : {names others : Names} → TableMatches octets targets names → TableMatches octets targets others
      → (labels : List (List ℕ)) → get names labels ≡ get others labels
  same_found agrees other [] = agrees.root ∙ sym other.root
  same_found {names = names} {others = others} agrees other (label ∷ rest) =
      let same = same_found agrees other rest in
      found_alike (get names (label ∷ rest)) (get others (label ∷ rest))
      (λ place is. carried agrees other label rest place same is)
      (λ place is. carried other agrees label rest place (sym same) is)

  pub one_table : {names others : Names} → TableMatches octets targets names → TableMatches octets targets others
      → names ≡ others
  one_table {names = names} {others = others} agrees other =
      same_map labels_total labels_alike names others (same_found agrees other)

-- they are a fact
pub known_once : (octets : List ℕ) (targets : List Target) → IsProp (NamesOf octets targets)
known_once octets targets a b =
    Σ_prop_path (λ names. ∥∥₁_prop)
    (∥∥₁_elim a.1 (names_once a.0 b.0) (λ x. ∥∥₁_elim b.1 (names_once a.0 b.0) (λ y. one_table x y)))
