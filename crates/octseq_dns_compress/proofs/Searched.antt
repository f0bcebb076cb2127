-- Searching for the labels of a name, the last one first.
use Rattle.std.proofs.Common.{slice_index_or, IsTrue, ◌≡◌, ℕ, zero, suc, ◌+◌, ◌-◌, ◌<◌, ◌≤◌, None, List, [], ◌∷◌}
use Rattle.std.proofs.Common.{length, take, drop, refl, sym, ap, ◌∙◌, arith, is_some, true≢false, drop-drop}
use Rattle.std.proofs.Common.{length-drop}
use Rattle.std.specs.FinMap.{get}
use Rattle.octseq_dns_compress.proofs.Words.{TableMatches, IsSuffixAt, place_there, none_found, key, HasKeyAt, HasNoKey}
use Rattle.octseq_dns_compress.proofs.Words.{found}
use Rattle.octseq_dns_compress.proofs.Words.{missing, Names, at_or_zero, is_there, first_labels, label_no, last_place}
use Rattle.octseq_dns_compress.proofs.Words.{pointers_from, prefixed, Target}
use Rattle.octseq_dns_compress.proofs.PlainLabels.{one_left}

module _ {octets : List ℕ} {targets : List Target} (names : Names) (agrees : TableMatches octets targets names) where
  -- labels whose suffix isn't there aren't there
  not_there : (labels : List (List ℕ)) (k : ℕ) → k < length labels → get names (drop k labels) ≡ None
      → get names labels ≡ None
  not_there labels zero within none = none
  not_there [] (suc k) within none = absurd (omega (arith, within))
  not_there (label ∷ []) (suc k) within none = absurd (omega (arith, within))
  not_there (label ∷ more ∷ labels) (suc k) within none =
      let rest = not_there (more ∷ labels) k (omega (arith, within)) none in
      none_found (get names (label ∷ more ∷ labels)) (λ place is.
      true≢false (sym (agrees.all label (more ∷ labels) place is).more ∙ ap is_some rest))

  -- so no label before one that isn't there is
  pub all_new : (labels : List (List ℕ)) (last k : ℕ) → k ≤ last → last < length labels
      → get names (drop last labels) ≡ None → get names (drop k labels) ≡ None
  all_new labels last k before within none =
      let same : last ≡ k + (last - k) = omega (arith, before) in
      not_there (drop k labels) (last - k) (omega (arith, length-drop k labels, within, before))
      (rw (drop-drop (last - k) k labels, ← same) none)

  -- and the labels before those that are there are the first ones
  pub ending_is : (labels : List (List ℕ)) (written : ℕ) → written ≤ length labels
      → IsTrue (is_there names (drop written labels)) → ((k : ℕ) → k < written → get names (drop k labels) ≡ None)
      → (take written labels ≡ first_labels names labels)
      × (get names (drop written labels) ≡ last_place names labels)
  ending_is [] zero within there new = (refl, agrees.root)
  ending_is [] (suc w) within there new = absurd (omega (arith, within))
  ending_is (label ∷ labels) zero within there new =
      let place = place_there names label labels there in (rw there, rw place.1)
  ending_is (label ∷ labels) (suc w) within there new =
      let first = new zero (omega arith) in
      let rest = ending_is labels w (omega (arith, within)) there (λ k less. new (suc k) (omega (arith, less))) in
      (rw (ap is_some first, rest.0), rw first rest.1)

-- ---- by index

-- the last label that is left, read with its length octet
module _ (octets : List ℕ) (targets : List Target) (names : Names) (agrees : TableMatches octets targets names)
    (labels : List (List ℕ)) (written : ℕ) (read : List ℕ) (next pointers : ℕ) (some : 0 < written)
    (within : written ≤ length labels) (is : read ≡ prefixed (label_no labels (written - 1)))
    (ends : IsSuffixAt names (drop written labels) next pointers) where
  -- it is there
  pub ends_at : (index : ℕ) (d : Target) → HasKeyAt octets targets (key next read) index
      → IsSuffixAt names (drop (written - 1) labels) (slice_index_or targets index d).at
      ((slice_index_or targets index d).pointers + 1)
  ends_at index d has =
      let it = found agrees (label_no labels (written - 1)) (drop written labels) index d ends.there
      (rw (is, ends.next_is) at has) in
      rw (one_left labels written some within) (record {
        there = ap is_some it.1;
        next_is = ap (λ t. t.at) it.2 ∙ sym (ap at_or_zero it.1);
        pointers_are = ap (λ t. t.pointers + 1) it.2 ∙ sym (ap pointers_from it.1);
      })

  -- or no target has its key, so neither it nor a label before it is there
  pub none_at : HasNoKey octets targets (key next read) → (k : ℕ) → k < written → get names (drop k labels) ≡ None
  none_at none k less =
      all_new names agrees labels (written - 1) k (omega (arith, less)) (omega (arith, some, within))
      (rw (one_left labels written some within)
      (missing agrees (label_no labels (written - 1)) (drop written labels) (rw (is, ends.next_is) at none)))
