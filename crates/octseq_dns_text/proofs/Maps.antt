-- The parameters in a map.
use Rattle.std.proofs.Common.{◌≡◌, ℕ, List, [], ◌∷◌, map, Vec, refl, sym, ap, subst}
use Rattle.std.specs.List.{Contains}
use Rattle.std.specs.List.Sorted.{IsStrictlyIncreasing, IsStrictlySortedBy}
use Rattle.std.specs.Map.{keys_of}
use Rattle.std.specs.Ordering.{nat_cmp}
use Rattle.std.proofs.lemmas.Map.Keys.{IsStrictlyIncreasing-from_sorted}
use Rattle.octseq_dns_text.specs.Reading.{entry_param}
use Rattle.octseq_dns_text.proofs.ParamsTexts.{key_of}

-- their keys are those of the map
pub keys_in : {Z : Type 0} (es : List (ℕ × Vec ℕ Z)) → map key_of (map entry_param es) ≡ keys_of es
keys_in [] = refl
keys_in (e ∷ es) = ap (λ l. e.0 ∷ l) (keys_in es)

pub keys_ascend : {Z : Type 0} (es : List (ℕ × Vec ℕ Z)) → IsStrictlySortedBy nat_cmp (keys_of es)
    → IsStrictlyIncreasing (map key_of (map entry_param es))
keys_ascend es ordered =
    subst IsStrictlyIncreasing (sym (keys_in es)) (IsStrictlyIncreasing-from_sorted (keys_of es) ordered)

pub keys_contain : {Z : Type 0} (es : List (ℕ × Vec ℕ Z)) (key : ℕ) → Contains (keys_of es) key
    → Contains (map key_of (map entry_param es)) key
keys_contain es key there = subst (λ l. Contains l key) (sym (keys_in es)) there
