-- Targets in a message that changes elsewhere: their labels stay.
use Rattle.std.proofs.Common.{slice_index_or, ◌≡◌, true, ℕ, ◌+◌, ◌<◌, ◌≤◌, List, [], ◌∷◌, ◌++◌, length, drop, sym, ap}
use Rattle.std.proofs.Common.{◌∙◌, subst, arith, is_some, length-append, length-drop, true≢false, nat_cmp, is_lt}
use Rattle.std.proofs.Math.ListN.{get_or-append}
use Rattle.std.proofs.Math.Logic.{∥∥₁_map, ∥∥₁_elim}
use Rattle.std.proofs.lemmas.List.{drop-append-le, take-append-le}
use Rattle.std.specs.Cmp.Lexicographic.{slice_cmp}
use Rattle.std.specs.Coded.{Coded-set, coded_bool, coded_ℕ, le_prop}
use Rattle.std.specs.FinMap.{empty, get-empty, len-empty}
use Rattle.octseq_dns_compress.proofs.Words.{TableMatches, label_at, digest_of, key, key_of, key_cmp, IsWholeLabel}
use Rattle.octseq_dns_compress.proofs.Words.{AreTargets}
use Rattle.octseq_dns_compress.proofs.Words.{NamesOf, Names, Place, labels_cmp, Target}
use Rattle.octseq_dns_compress.proofs.Keys.{less_reported}

-- two messages have the same label at an offset
abbrev pub IsAlike : List ℕ → List ℕ → ℕ → Type 0
IsAlike old new at = (slice_index_or new at 0 ≡ slice_index_or old at 0) × (label_at new at ≡ label_at old at)

module _ (old new : List ℕ) (targets : List Target) (long : length old ≤ length new)
    (alike : (i : ℕ) (d : Target) → i < length targets → IsAlike old new (slice_index_or targets i d).at) where
  whole_alike : (at : ℕ) → IsAlike old new at → IsWholeLabel old at → IsWholeLabel new at
  whole_alike at same whole = omega (arith, same.0, long, whole)

  key_alike : (i : ℕ) (d : Target) → i < length targets
      → key_of new (slice_index_or targets i d) ≡ key_of old (slice_index_or targets i d)
  key_alike i d within = ap (key (slice_index_or targets i d).next) (alike i d within).1

  targets_alike : AreTargets old targets → AreTargets new targets
  targets_alike are = record {
    whole = λ i d within. whole_alike (slice_index_or targets i d).at (alike i d within) (are.whole i d within);
    near = are.near;
    digested = λ i d within. are.digested i d within ∙ ap digest_of (sym (alike i d within).1);
    few = are.few;
    less = λ i j d before within.
        ap (λ key. slice_cmp nat_cmp key (key_of new (slice_index_or targets j d)))
        (key_alike i d (omega (arith, before, within)))
        ∙ ap (slice_cmp nat_cmp (key_of old (slice_index_or targets i d))) (key_alike j d within)
        ∙ are.less i j d before within;
  }

  -- the targets are those of the same names
  pub agrees_alike : (names : Names) → TableMatches old targets names → TableMatches new targets names
  agrees_alike names agrees = record {
    targets_are = targets_alike agrees.targets_are;
    count = agrees.count;
    root = agrees.root;
    held = agrees.held;
    all = λ label rest place is.
        let has = agrees.all label rest place is in
        let d : Target = record { at = 0; next = 0; pointers = 0; digest = 0 } in
        let same : IsAlike old new place.at =
        subst (IsAlike old new) (ap (λ t. t.at) (has.target_is d)) (alike has.index d has.within) in
        record {
          label_is = same.1 ∙ has.label_is;
          whole = whole_alike place.at same has.whole;
          after_header = has.after_header;
          more = has.more;
          index = has.index;
          within = has.within;
          target_is = has.target_is;
        };
    once = agrees.once;
  }

  abbrev pub known_alike : NamesOf old targets → NamesOf new targets
  known_alike known = (known.0, ∥∥₁_map known.1 (agrees_alike known.0))

-- ---- octets come after others

module _ (octets more : List ℕ) where
  pub octet_stays : (at : ℕ) → at < length octets → slice_index_or (octets ++ more) at 0 ≡ slice_index_or octets at 0
  octet_stays at within = get_or-append octets more 0 at within

  pub label_stays : (at : ℕ) → IsWholeLabel octets at → label_at (octets ++ more) at ≡ label_at octets at
  unfolding label_at
  label_stays at whole =
      let n = 1 + slice_index_or octets at 0 in
      rw (octet_stays at (omega (arith, whole)), drop-append-le at octets more (omega (arith, whole)))
      (take-append-le n (drop at octets) more (omega (arith, whole, length-drop at octets)))

  pub key_stays : (target : Target) → IsWholeLabel octets target.at
      → key_of (octets ++ more) target ≡ key_of octets target
  key_stays target whole = ap (key target.next) (label_stays target.at whole)

  pub alike_stays : (at : ℕ) → IsWholeLabel octets at → IsAlike octets (octets ++ more) at
  alike_stays at whole = (octet_stays at (omega (arith, whole)), label_stays at whole)

  pub agrees_grown : (targets : List Target) (names : Names) → TableMatches octets targets names
      → TableMatches (octets ++ more) targets names
  agrees_grown targets names agrees =
      agrees_alike octets (octets ++ more) targets (omega (arith, length-append octets more))
      (λ i d within. alike_stays (slice_index_or targets i d).at (agrees.targets_are.whole i d within)) names agrees

-- ---- targets of known names

module _ (octets : List ℕ) (targets : List Target) (known : NamesOf octets targets) where
  pub known_targets : AreTargets octets targets
  known_targets = record {
    whole = λ i d within. ∥∥₁_elim known.1 le_prop (λ agrees. agrees.targets_are.whole i d within);
    near = λ i d within. ∥∥₁_elim known.1 le_prop (λ agrees. agrees.targets_are.near i d within);
    digested = λ i d within. ∥∥₁_elim known.1 (Coded-set coded_ℕ (slice_index_or targets i d).digest
        (digest_of (label_at octets (slice_index_or targets i d).at)))
        (λ agrees. agrees.targets_are.digested i d within);
    few = λ i d within. ∥∥₁_elim known.1 le_prop (λ agrees. agrees.targets_are.few i d within);
    less = λ i j d before within.
        let reported = key_cmp octets (slice_index_or targets i d) (key_of octets (slice_index_or targets j d)) in
        less_reported reported (∥∥₁_elim known.1 (Coded-set coded_bool (is_lt reported) true)
        (λ agrees. ap is_lt (agrees.targets_are.less i j d before within)));
  }

-- ---- no names

pub none_agree : (octets : List ℕ) (held : List Target) → held ≡ [] → TableMatches octets held empty
none_agree octets held none = subst (λ t. TableMatches octets t empty) (sym none) (record {
  targets_are = record {
    whole = λ i d less. absurd (omega (arith, less));
    near = λ i d less. absurd (omega (arith, less));
    digested = λ i d less. absurd (omega (arith, less));
    few = λ i d less. absurd (omega (arith, less));
    less = λ i j d first less. absurd (omega (arith, less));
  };
  count = sym (len-empty labels_cmp Place);
  root = get-empty labels_cmp [];
  held = λ i d less. absurd (omega (arith, less));
  all = λ label rest place found. absurd (true≢false (ap is_some (sym found ∙ get-empty labels_cmp (label ∷ rest))));
  once = λ labels others place other found there same.
      absurd (true≢false (ap is_some (sym found ∙ get-empty labels_cmp labels)));
})

-- so there are no names
abbrev pub none_known : (octets : List ℕ) (held : List Target) → held ≡ [] → NamesOf octets held
none_known octets held none = (empty, ∣ none_agree octets held none ∣₁)
