-- The names after labels are written, of which the last ones are kept first.
use Rattle.std.proofs.Common.{rules, tests, IsTrue, if◌then◌else◌, ◌≡◌, Bool, false, ℕ, ◌+◌, ◌<◌, ◌≤◌, None, List, []}
use Rattle.std.proofs.Common.{◌∷◌, length, refl, ap, arith, is_some}
use Rattle.std.proofs.lemmas.Bool.{false_from_ne_true}
use Rattle.std.specs.FinMap.{get, len, insert}
use Rattle.octseq_dns_compress.proofs.Words.{get_other, Names, Place, is_there, is_kept, with_labels}

-- labels that aren't found, and aren't the root, aren't there
pub absent : (names : Names) (labels : List (List ℕ)) → 0 < length labels → get names labels ≡ None
    → is_there names labels ≡ false
absent names [] some none = absurd (omega (arith, some))
absent names (label ∷ labels) some none = ap is_some none

-- ---- whether labels are kept

module _ (most : ℕ) (names : Names) (rest : List (List ℕ)) (place : Place) where
  pub kept_parts : IsTrue (is_kept most names rest place)
      → (place.at ≤ 16383) × (place.pointers ≤ 126) × (len names < most) × IsTrue (is_there names rest)
  kept_parts kept = search (rules, tests)

  pub kept_from : place.at ≤ 16383 → place.pointers ≤ 126 → len names < most → IsTrue (is_there names rest)
      → IsTrue (is_kept most names rest place)
  kept_from near few room there = search (rules, tests)

  pub unkept : (place.at ≤ 16383 → place.pointers ≤ 126 → len names < most → ¬ IsTrue (is_there names rest))
      → is_kept most names rest place ≡ false
  unkept never =
      false_from_ne_true (is_kept most names rest place) (λ kept.
      let parts = kept_parts kept in never parts.0 parts.1 parts.2 parts.3)

module _ (most pointers : ℕ) (names : Names) where
  -- the lookup of more labels than are written doesn't change
  pub with_other : (start : ℕ) (labels others : List (List ℕ)) → length labels < length others
      → get (with_labels most pointers names start labels) others ≡ get names others
  with_other start [] others less = refl
  with_other start (label ∷ labels) others less =
      let more = with_labels most pointers names (start + (1 + length label)) labels in
      let place : Place = record { at = start; pointers = pointers } in
      let same = with_other (start + (1 + length label)) labels others (omega (arith, less)) in
      let put = get_other more (label ∷ labels) others place (λ one. absurd (omega (arith, ap length one, less))) in
      grind (arith, tests, same, put)

  -- labels that are there add nothing
  pub with_known : (start : ℕ) (labels : List (List ℕ)) → IsTrue (is_there names labels)
      → with_labels most pointers names start labels ≡ names
  with_known start [] there = refl
  with_known start (label ∷ labels) there = rw there

  -- another label is kept, or isn't
  pub with_one : (start : ℕ) (label : List ℕ) (labels : List (List ℕ)) (more : Names) (kept : Bool)
      → with_labels most pointers names (start + (1 + length label)) labels ≡ more
      → get names (label ∷ labels) ≡ None
      → is_kept most more labels (record { at = start; pointers = pointers }) ≡ kept
      → with_labels most pointers names start (label ∷ labels)
      ≡ (if kept then insert more (label ∷ labels) (record { at = start; pointers = pointers }) else more)
  with_one start label labels more kept is none kept_is = rw (ap is_some none, is, kept_is)
