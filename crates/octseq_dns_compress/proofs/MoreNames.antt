-- Another target, in its place among others.
use Rattle.std.proofs.Common.{slice_index_or, ◌≡◌, ℕ, zero, suc, ◌+◌, ◌<◌, ◌≤◌, List, [], ◌∷◌, length, take, drop, ap}
use Rattle.std.proofs.Common.{◌∙◌, refl, arith, lt_of_not-le, All, AllPairs, insert, IsTrue, cond, ◌⊎◌, inl, inr, Some}
use Rattle.std.proofs.Common.{None, sym, is_some}
use Rattle.std.proofs.Math.Decide.{dec_le}
use Rattle.std.proofs.lemmas.Cmp.{nat_list_cmp_total}
use Rattle.std.proofs.lemmas.List.Edits.{get_or-insert_below, get_or-insert_above, length-insert, get_or-insert_at}
use Rattle.std.proofs.lemmas.List.Elements.{All-append, All-cons, All-drop, All-take}
use Rattle.std.proofs.lemmas.List.Kept.{AllPairs-cons}
use Rattle.std.specs.Ordering.{ordering_reverse}
use Rattle.std.specs.declared.cmp.Ordering.{Ordering}
use Rattle.octseq_dns_compress.proofs.Words.{label_at, digest_of, key_of, key_cmp, IsWholeLabel, AreTargets, IsPosition}
use Rattle.octseq_dns_compress.proofs.Words.{HasNoKey, key, Target, TableMatches, IsOfName, HasTarget, name_offset}
use Rattle.octseq_dns_compress.proofs.Words.{target_of}
use Rattle.octseq_dns_compress.proofs.Words.{labels_total, get_new, get_other, alike_there, some_or_none, place_there}
use Rattle.octseq_dns_compress.proofs.Words.{put_cases, name_key, found, Names, Place, at_or_zero, is_there, prefixed}
use Rattle.octseq_dns_compress.proofs.Keys.{key_there}
use Rattle.std.specs.FinMap.{get, len, insert as put, len-insert}

-- what holds of the old targets and of the new one holds of all
pub all_insert : (P : Target → Type 0) (position : ℕ) (targets : List Target) (target : Target) → All P targets
    → P target → All P (insert targets position target)
all_insert P position targets target all one =
    All-append P (take position targets) (target ∷ drop position targets) (All-take P position targets all)
    (All-cons P target (drop position targets) one (All-drop P position targets all))

-- so does what holds of a target and each one after it
pairs_insert : (R : Target → Target → Type 0) (position : ℕ) (targets : List Target) (target : Target)
    → position ≤ length targets → AllPairs R targets
    → ((k : ℕ) (d : Target) → k < position → R (slice_index_or targets k d) target)
    → ((k : ℕ) (d : Target) → position ≤ k → k < length targets → R target (slice_index_or targets k d))
    → AllPairs R (insert targets position target)
pairs_insert R zero targets target within pairs low high =
    AllPairs-cons R target targets (λ k d inside. high k d (omega arith) inside) pairs
pairs_insert R (suc position) [] target within pairs low high = absurd (omega (arith, within))
pairs_insert R (suc position) (t ∷ targets) target within pairs low high =
    AllPairs-cons R t (insert targets position target)
    (all_insert (R t) position targets target (λ k d inside. pairs zero (suc k) d (omega arith) (omega (arith, inside)))
    (low zero t (omega arith)))
    (pairs_insert R position targets target (omega (arith, within))
    (λ i j d less inside. pairs (suc i) (suc j) d (omega (arith, less)) (omega (arith, inside)))
    (λ k d less. low (suc k) d (omega (arith, less)))
    (λ k d from inside. high (suc k) d (omega (arith, from)) (omega (arith, inside))))

-- an old target is still there
pub still_in : (targets : List Target) (position : ℕ) (target : Target) (index : ℕ) → position ≤ length targets
    → index < length targets → (i : ℕ) × (i < length (insert targets position target))
    × ((d : Target) → slice_index_or (insert targets position target) i d ≡ slice_index_or targets index d)
still_in targets position target index within inside = by (dec_le position index) where
  long : length (insert targets position target) ≡ length targets + 1
  long = length-insert targets position target within

  by : Dec (position ≤ index) → (i : ℕ) × (i < length (insert targets position target))
      × ((d : Target) → slice_index_or (insert targets position target) i d ≡ slice_index_or targets index d)
  by (yes from) = (
    index + 1,
    omega (arith, long, inside),
    λ d. get_or-insert_above targets position target d index from within,
  )
  by (no less) = (
    index,
    omega (arith, long, inside),
    λ d. get_or-insert_below targets position target d index (lt_of_not-le less) within,
  )

module _ (octets : List ℕ) (targets : List Target) (target : Target) (position : ℕ)
    (are : AreTargets octets targets) (whole : IsWholeLabel octets target.at) (near : target.at ≤ 16383)
    (digested : target.digest ≡ digest_of (label_at octets target.at)) (few : target.pointers ≤ 126)
    (is : IsPosition octets targets (key_of octets target) position)
    (none : HasNoKey octets targets (key_of octets target)) where
  comes_after : (k : ℕ) (d : Target) (reported : Ordering) → position ≤ k → k < length targets
      → key_cmp octets (slice_index_or targets k d) (key_of octets target) ≡ reported
      → key_cmp octets target (key_of octets (slice_index_or targets k d)) ≡ Ordering.Less
  comes_after k d Ordering.Less from inside reported = absurd (is.after k d from inside reported)
  comes_after k d Ordering.Equal from inside reported =
      absurd (none k (key_there octets targets (key_of octets target) k d inside reported))
  comes_after k d Ordering.Greater from inside reported =
      nat_list_cmp_total.antisymm (key_of octets target) (key_of octets (slice_index_or targets k d))
      ∙ ap ordering_reverse reported

  pub targets_added : AreTargets octets (insert targets position target)
  targets_added = record {
    whole = all_insert (λ t. IsWholeLabel octets t.at) position targets target are.whole whole;
    near = all_insert (λ t. t.at ≤ 16383) position targets target are.near near;
    digested = all_insert (λ t. t.digest ≡ digest_of (label_at octets t.at)) position targets target are.digested
        digested;
    few = all_insert (λ t. t.pointers ≤ 126) position targets target are.few few;
    less = pairs_insert (λ s t. key_cmp octets s (key_of octets t) ≡ Ordering.Less) position targets target is.within
        are.less is.before (λ k d from inside. comes_after k d _ from inside refl);
  }

-- ---- names with another

-- A name that isn't there may be kept: its first label is at its place, which a pointer can express and no other name
-- has, and what follows is there.
pub record MayBeKept (octets : List ℕ) (names : Names) (label : List ℕ) (rest : List (List ℕ)) (place : Place)
    : Type 0 where
  pub new : get names (label ∷ rest) ≡ None
  pub more : IsTrue (is_there names rest)
  pub label_is : label_at octets place.at ≡ length label ∷ label
  pub whole : IsWholeLabel octets place.at
  pub after_header : 12 ≤ place.at
  pub near : place.at ≤ 16383
  pub few : place.pointers ≤ 126
  pub fresh : (labels : List (List ℕ)) (other : Place) → get names labels ≡ Some other → ¬ (other.at ≡ place.at)

module _ (octets : List ℕ) (targets : List Target) (names : Names) (agrees : TableMatches octets targets names)
    (label : List ℕ) (rest : List (List ℕ)) (place : Place) (may : MayBeKept octets names label rest place) where
  abbrev all_names : Names
  all_names = put names (label ∷ rest) place

  apart : (labels : List (List ℕ)) → IsTrue (is_there names labels) → ¬ (labels ≡ label ∷ rest)
  apart [] there same = absurd (omega (arith, ap length same))
  apart (l ∷ labels) there same =
      let found = place_there names l labels there in
      some_or_none (get names (l ∷ labels)) found.0 found.1 (ap (get names) same ∙ may.new)

  get_stays : (labels : List (List ℕ)) → IsTrue (is_there names labels) → get all_names labels ≡ get names labels
  get_stays labels there = get_other names (label ∷ rest) labels place (apart labels there)

  target_stays : (l : List ℕ) (labels : List (List ℕ)) (p : Place) → IsTrue (is_there names labels)
      → target_of names l labels p ≡ target_of all_names l labels p
  target_stays l labels p there =
      ap (λ n. record { at = p.at; next = at_or_zero n; pointers = p.pointers; digest = digest_of (prefixed l) })
      (sym (get_stays labels there))

  there_stays : (labels : List (List ℕ)) → IsTrue (is_there names labels) → IsTrue (is_there all_names labels)
  there_stays labels there = alike_there all_names names labels (get_stays labels there) ∙ there

  abbrev target : Target
  target = target_of names label rest place

  key_is : key_of octets target ≡ name_key names label rest
  key_is = ap (key (name_offset names rest)) may.label_is

  -- no target has its key
  none : HasNoKey octets targets (name_key names label rest)
  none index has =
      let d : Target = record { at = 0; next = 0; pointers = 0; digest = 0 } in
      let found = found agrees label rest index d may.more has in
      some_or_none (get names (label ∷ rest)) found.0 found.1 may.new

  module _ (position : ℕ) (is : IsPosition octets targets (name_key names label rest) position) where
    abbrev all_targets : List Target
    all_targets = insert targets position target

    held_added : (index : ℕ) (d : Target) → index < length all_targets
        → IsOfName all_names (slice_index_or all_targets index d)
    held_added =
        all_insert (IsOfName all_names) position targets target
        (λ index d within.
        let held = agrees.held index d within in
        let mine = agrees.all held.label held.rest held.place held.there in
        record {
          label = held.label;
          rest = held.rest;
          place = held.place;
          there = get_stays (held.label ∷ held.rest) (ap is_some held.there) ∙ held.there;
          target_is = held.target_is ∙ target_stays held.label held.rest held.place mine.more;
        })
        (record {
          label = label;
          rest = rest;
          place = place;
          there = get_new names (label ∷ rest) place;
          target_is = target_stays label rest place may.more;
        })

    new_has : HasTarget octets all_targets all_names label rest place
    new_has = record {
      label_is = may.label_is;
      whole = may.whole;
      after_header = may.after_header;
      more = there_stays rest may.more;
      index = position;
      within = omega (arith, length-insert targets position target is.within, is.within);
      target_is = λ d. get_or-insert_at targets position target d is.within ∙ target_stays label rest place may.more;
    }

    old_has : (l : List ℕ) (r : List (List ℕ)) (p : Place) → HasTarget octets targets names l r p
        → HasTarget octets all_targets all_names l r p
    old_has l r p has =
        let still = still_in targets position target has.index is.within has.within in
        record {
          label_is = has.label_is;
          whole = has.whole;
          after_header = has.after_header;
          more = there_stays r has.more;
          index = still.0;
          within = still.1;
          target_is = λ d. still.2 d ∙ has.target_is d ∙ target_stays l r p has.more;
        }

    all_added : (l : List ℕ) (r : List (List ℕ)) (p : Place) → get all_names (l ∷ r) ≡ Some p
        → HasTarget octets all_targets all_names l r p
    all_added l r p found = by_name (put_cases names (label ∷ rest) place (l ∷ r) p found) where
      by_name : (((l ∷ r) ≡ (label ∷ rest)) × (p ≡ place)) ⊎ (get names (l ∷ r) ≡ Some p)
          → HasTarget octets all_targets all_names l r p
      by_name (inl (same, one)) =
          rw (one, ap (λ xs. slice_index_or xs 0 []) same, ap (drop 1) same) new_has
      by_name (inr found) = old_has l r p (agrees.all l r p found)

    once_added : (labels others : List (List ℕ)) (p o : Place) → get all_names labels ≡ Some p
        → get all_names others ≡ Some o → p.at ≡ o.at → labels ≡ others
    once_added labels others p o one two at =
        by_name (put_cases names (label ∷ rest) place labels p one) (put_cases names (label ∷ rest) place others o two)
      where
        by_name : ((labels ≡ label ∷ rest) × (p ≡ place)) ⊎ (get names labels ≡ Some p)
            → ((others ≡ label ∷ rest) × (o ≡ place)) ⊎ (get names others ≡ Some o) → labels ≡ others
        by_name (inl one) (inl other) = one.0 ∙ sym other.0
        by_name (inl one) (inr found) = absurd (may.fresh others o found (sym at ∙ ap (λ x. x.at) one.1))
        by_name (inr found) (inl other) = absurd (may.fresh labels p found (at ∙ ap (λ x. x.at) other.1))
        by_name (inr one) (inr other) = agrees.once labels others p o one other at

    pub agrees_added : TableMatches octets (insert targets position (target_of names label rest place))
        (put names (label ∷ rest) place)
    agrees_added = record {
      targets_are = targets_added octets targets target position agrees.targets_are may.whole may.near
          (sym (ap digest_of may.label_is)) may.few
          (rw key_is is) (rw key_is none);
      count = length-insert targets position target is.within ∙ ap (λ n. n + 1) agrees.count
          ∙ sym (len-insert labels_total names (label ∷ rest) place
          ∙ ap (λ there. cond there (len names) (len names + 1)) (ap is_some may.new));
      root = get_other names (label ∷ rest) [] place (apart [] refl) ∙ agrees.root;
      held = held_added;
      all = all_added;
      once = once_added;
    }
