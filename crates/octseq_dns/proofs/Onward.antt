-- Appending entries to a message, each one for an entry that was read.
use Rattle.std.proofs.Common.{◌≡◌, ℕ, ◌+◌, ◌*◌, ◌≤◌, Option, List, [], ◌∷◌, ◌++◌, length, map, refl, sym, ap, ◌∙◌}
use Rattle.std.proofs.Common.{subst, arith, append_assoc, append-nil}
use Rattle.std.proofs.lemmas.List.{map-append}
use Rattle.std.proofs.lemmas.List.Sums.{sum_by-append, sum_by_push}
use Rattle.std.specs.List.{AllByRecursion, AllZip, sum_by}
use Rattle.octseq.specs.Limit.{ExceedsLimit}
use Rattle.octseq.proofs.Limits.{past_more}
use Rattle.octseq.proofs.Repeats.{each_snoc}
use Rattle.octseq_dns_compress.specs.State.{State, Entry, with_entry, with_entries}
use Rattle.octseq_dns_compress.proofs.Fields.{entries_grow, entries_more}
use Rattle.octseq_dns_compress.proofs.Steps.{grown_length}
use Rattle.octseq_dns.specs.Appended.{Appended}

-- Some of the entries that were read are left. What is written for the others was appended, and fits. It took at most
-- 17 turns for each label, and each label took a turn or an octet.
pub record Onward {A I : Type 0} (Of : I → A → Type 0) (entry : A → Entry) (labels : A → ℕ) (FitsOne : A → Type 0)
    (most : ℕ) (all left : List I) (first now : State) (from turns : ℕ) : Type 0 where
  pub done : List A
  pub cut : (written : List A) → AllZip Of all written
      → (rest : List A) × (written ≡ done ++ rest) × AllZip Of left rest
  pub join : (rest : List A) → AllZip Of left rest → AllZip Of all (done ++ rest)
  pub is : now ≡ with_entries most first (map entry done)
  pub fits : AllByRecursion FitsOne done
  pub few : turns ≤ from + 17 * sum_by labels done
  pub least : from + sum_by labels done + length first.octets ≤ turns + length now.octets

-- at first, all are left
pub onward_first : {A I : Type 0} {Of : I → A → Type 0} {entry : A → Entry} {labels : A → ℕ} {FitsOne : A → Type 0}
    {most : ℕ} {all left : List I} {first : State} {from : ℕ} → left ≡ all
    → Onward Of entry labels FitsOne most all left first first from from
onward_first {Of = Of} same = record {
  done = [];
  cut = λ written are. (written, refl, subst (λ l. AllZip Of l written) (sym same) are);
  join = λ rest are. subst (λ l. AllZip Of l rest) same are;
  is = refl;
  fits = tt;
  few = omega arith;
  least = omega arith;
}

module _ {A I : Type 0} {Of : I → A → Type 0} {entry : A → Entry} {labels : A → ℕ} {FitsOne : A → Type 0} {most : ℕ}
    {all before : List I} {first now : State} {from turns : ℕ}
    (on : Onward Of entry labels FitsOne most all before first now from turns) where
  -- at last, none is left
  pub onward_none : before ≡ [] → Appended Of entry labels FitsOne most all first now from turns
  onward_none none = record {
    exists = (on.done ++ [], on.join [] (subst (λ l. AllZip Of l []) (sym none) tt));
    is = λ written are. on.is ∙ ap (λ w. with_entries most first (map entry w)) (done_is written are);
    fits = λ written are. subst (AllByRecursion FitsOne) (done_is written are) on.fits;
    least = λ written are.
        let sum = ap (sum_by labels) (done_is written are) in
        let least = on.least in
        omega (arith, sum, least);
  } where
    done_is : (written : List A) → AllZip Of all written → on.done ≡ written
    done_is written are =
        let cut = on.cut written are in
        sym (cut.1 ∙ ap (λ rest. on.done ++ rest) (no_more cut.0 (subst (λ l. AllZip Of l cut.0) none cut.2))
        ∙ append-nil on.done) where
          no_more : (rest : List A) → AllZip Of [] rest → rest ≡ []
          no_more [] are = refl
          no_more (x ∷ rest) are = absurd are

  -- the turns so far are among those of the whole
  pub onward_fewer : (written : List A) → AllZip Of all written → turns ≤ from + 17 * sum_by labels written
  onward_fewer written are =
      let cut = on.cut written are in
      let sum = ap (sum_by labels) cut.1 ∙ sum_by-append labels on.done cut.0 in
      let few = on.few in
      omega (arith, few, sum)

  module _ {i : I} {left : List I} {one : A} (single : (i : I) (x y : A) → Of i x → Of i y → x ≡ y)
      (steps : before ≡ i ∷ left) (of : Of i one) where
    -- this one is next
    next_is : (written : List A) → AllZip Of all written
        → (rest : List A) × (written ≡ (on.done ++ one ∷ []) ++ rest) × AllZip Of left rest
    next_is written are =
        let cut = on.cut written are in by_rest cut.0 cut.1 (subst (λ l. AllZip Of l cut.0) steps cut.2) where
          by_rest : (rest : List A) → written ≡ on.done ++ rest → AllZip Of (i ∷ left) rest
              → (rest : List A) × (written ≡ (on.done ++ one ∷ []) ++ rest) × AllZip Of left rest
          by_rest [] is are = absurd are
          by_rest (other ∷ rest) is are = (
            rest,
            is ∙ ap (λ o. on.done ++ o ∷ rest) (single i other one are.0 of)
                ∙ sym (append_assoc on.done (one ∷ []) rest),
            are.1,
          )

    then_is : with_entries most first (map entry (on.done ++ one ∷ [])) ≡ with_entry most now (entry one)
    then_is = ap (with_entries most first) (map-append entry on.done (one ∷ []))
        ∙ entries_more most first (map entry on.done) (entry one ∷ [])
        ∙ ap (λ s. with_entry most s (entry one)) (sym on.is)

    -- it is appended
    pub onward_next : {next : State} {took : ℕ} → next ≡ with_entry most now (entry one) → FitsOne one
        → took ≤ turns + 17 * labels one → turns + labels one + length now.octets ≤ took + length next.octets
        → Onward Of entry labels FitsOne most all left first next from took
    onward_next is fits few least =
        let sum = sum_by_push labels on.done one in
        let before = on.few in
        let so_far = on.least in
        record {
          done = on.done ++ one ∷ [];
          cut = next_is;
          join = λ rest are. subst (AllZip Of all) (sym (append_assoc on.done (one ∷ []) rest))
              (on.join (one ∷ rest) (subst (λ l. AllZip Of l (one ∷ rest)) (sym steps) (of, are)));
          is = is ∙ sym then_is;
          fits = each_snoc FitsOne on.done one on.fits fits;
          few = omega (arith, before, few, sum);
          least = omega (arith, so_far, least, sum);
        }

    -- or it is refused, after some turns
    pub onward_turns : {took : ℕ} → took ≤ turns + 17 * labels one → (written : List A) → AllZip Of all written
        → took ≤ from + 17 * sum_by labels written
    onward_turns more written are =
        let cut = next_is written are in
        let sum = ap (sum_by labels) cut.1 ∙ sum_by-append labels (on.done ++ one ∷ []) cut.0 in
        let pushed = sum_by_push labels on.done one in
        let few = on.few in
        omega (arith, few, more, sum, pushed)

    -- the whole exceeds a limit if the message with this entry does
    pub onward_past : (limit : Option ℕ) → ExceedsLimit limit (length (with_entry most now (entry one)).octets)
        → (written : List A) → AllZip Of all written
        → ExceedsLimit limit (length (with_entries most first (map entry written)).octets)
    onward_past limit past written are =
        let cut = next_is written are in
        let then = with_entry most now (entry one) in
        let whole : with_entries most first (map entry written) ≡ with_entries most then (map entry cut.0) =
        ap (λ w. with_entries most first (map entry w)) cut.1
        ∙ ap (with_entries most first) (map-append entry (on.done ++ one ∷ []) cut.0)
        ∙ entries_more most first (map entry (on.done ++ one ∷ [])) (map entry cut.0)
        ∙ ap (λ s. with_entries most s (map entry cut.0)) then_is in
        let same = ap (λ s. length s.octets) whole in
        let longer = grown_length then.octets (with_entries most then (map entry cut.0)).octets
        (entries_grow most then (map entry cut.0)) in
        past_more limit (length then.octets) (length (with_entries most first (map entry written)).octets)
        (omega (arith, longer, same)) past
