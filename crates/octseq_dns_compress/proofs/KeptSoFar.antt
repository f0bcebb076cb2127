-- The names while the labels of a name are kept, the last one first.
use Rattle.std.proofs.Common.{slice_index_or, IsTrue, ◌≡◌, ◌⊎◌, inl, inr, ℕ, ◌+◌, ◌-◌, ◌<◌, ◌≤◌, Some, None, List, []}
use Rattle.std.proofs.Common.{◌∷◌, ◌++◌, length, length-append, take, drop, refl, sym, ap, ◌∙◌, subst, arith, is_some}
use Rattle.std.proofs.Common.{append_assoc, true≢false, drop_at, get_or-drop, get_or-take, length-drop, length-take}
use Rattle.std.proofs.Common.{take-take, All, insert, nat_cmp, is_lt}
use Rattle.std.proofs.lemmas.List.{drop_more, take-append-le}
use Rattle.std.proofs.lemmas.List.Edits.{length-insert}
use Rattle.std.proofs.lemmas.List.Elements.{All-cons, All-take, All-weaker}
use Rattle.std.specs.Cmp.{nat_cmp_is}
use Rattle.std.specs.Cmp.Lexicographic.{slice_cmp}
use Rattle.std.specs.FinMap.{get, insert as put}
use Rattle.std.specs.Ordering.{ordering_then}
use Rattle.std.specs.declared.cmp.Ordering.{Ordering}
use Rattle.octseq_dns_compress.proofs.Words.{TableMatches, name_offset, get_new, put_cases, label_at, digest_of}
use Rattle.octseq_dns_compress.proofs.Words.{with_digest}
use Rattle.octseq_dns_compress.proofs.Words.{key, key_cmp, IsWholeLabel, IsPosition, Names, Place, is_there, label_no}
use Rattle.octseq_dns_compress.proofs.Words.{prefixed, labels_wire, AreLabelsWritten, Target}
use Rattle.octseq_dns_compress.proofs.MoreNames.{all_insert, MayBeKept, agrees_added}
use Rattle.octseq_dns_compress.proofs.PlainLabels.{front_and_rest, whole_there, label_there, one_left}

-- the offset of the label after this many
abbrev pub offset_after : ℕ → List (List ℕ) → ℕ → ℕ
offset_after start labels count = start + length (labels_wire (take count labels))

-- ---- a label in the octets

module _ {octets : List ℕ} {names : Names} {start : ℕ} {labels : List (List ℕ)} {written : ℕ}
    (is : AreLabelsWritten octets names start labels written) (v : ℕ) (less : v < written)
    (within : written ≤ length labels) (at : ℕ) (same : at ≡ offset_after start labels v) where
  abbrev front : List ℕ
  front = is.front ++ labels_wire (take v labels)

  abbrev back : List ℕ
  back = labels_wire (drop (v + 1) (take written labels)) ++ is.back

  split_here : octets ≡ front ++ (prefixed (label_no labels v) ++ back)
  split_here =
      let first = take written labels in
      let a = labels_wire (take v labels) in
      let b = prefixed (label_no labels v) in
      let c = labels_wire (drop (v + 1) first) in
      let here = drop_more first v [] (omega (arith, less, within, length-take written labels)) in
      let parts : labels_wire first ≡ a ++ (b ++ c) =
      front_and_rest v first
      ∙ rw (take-take v written labels (omega (arith, less)), here, get_or-take written labels v [] less) in
      is.octets_are ∙ ap (λ o. is.front ++ (o ++ is.back)) parts ∙ simp append_assoc

  at_is : at ≡ length front
  at_is =
      omega (arith, length-append is.front (labels_wire (take v labels)), is.start_is, same)

  pub whole_here : IsWholeLabel octets at
  whole_here = whole_there octets front (label_no labels v) back at split_here at_is

  pub label_here : label_at octets at ≡ prefixed (label_no labels v)
  label_here = label_there octets front (label_no labels v) back at split_here at_is

-- ---- the names so far

-- the targets that were there lead to offsets before `start`
abbrev pub IsFirst : List Target → ℕ → ℕ → ℕ → ℕ → Type 0
IsFirst held start older next position =
    (position ≤ older) × (length held ≡ older) × (next < start) × All (λ t. t.next < start) held

-- The target of the first label that is kept is inserted among them, and each other one after it: these lead to offsets
-- after `next`.
pub record IsLater (held : List Target) (start older next : ℕ) : Type 0 where
  pub many : older + 1 ≤ length held
  pub low : All (λ t. t.next < start) (take (older + 1) held)
  pub high : All (λ t. next < t.next) (drop (older + 1) held)

-- so this is the position of a label that is followed by what is at `next`
later_position : (octets : List ℕ) (held : List Target) (start older next : ℕ) (label : List ℕ) → start ≤ next
    → IsLater held start older next → IsPosition octets held (key next label) (older + 1)
later_position octets held start older next label late is = record {
  within = is.many;
  before = λ k d less.
      let low = is.low k d (omega (arith, less, is.many, length-take (older + 1) held)) in
      let same = ap (λ t. t.next) (get_or-take (older + 1) held k d less) in
      reported k d Ordering.Less
      (nat_cmp_is (slice_index_or held k d).next next Ordering.Less (omega (arith, low, same, late)));
  after = λ k d from inside is_less.
      let high = is.high (k - (older + 1)) d (omega (arith, from, inside, length-drop (older + 1) held)) in
      let here : older + 1 + (k - (older + 1)) ≡ k = omega (arith, from) in
      let same = ap (λ t. t.next)
      (get_or-drop (older + 1) held (k - (older + 1)) d ∙ ap (λ i. slice_index_or held i d) here) in
      true≢false (ap is_lt (sym is_less ∙ reported k d Ordering.Greater
      (nat_cmp_is (slice_index_or held k d).next next Ordering.Greater (omega (arith, high, same)))));
} where
  reported : (k : ℕ) (d : Target) (order : Ordering) → order ≡ nat_cmp (slice_index_or held k d).next next
      → key_cmp octets (slice_index_or held k d) (key next label)
      ≡ ordering_then order (slice_cmp nat_cmp (with_digest (label_at octets (slice_index_or held k d).at))
      (with_digest label))
  reported k d order is =
      ap (λ order. ordering_then order (slice_cmp nat_cmp (with_digest (label_at octets (slice_index_or held k d).at))
      (with_digest label))) (sym is)

-- Labels of a name are kept, the last one first: `left` of those that are written aren't kept yet and end before `end`,
-- and `next` is the offset of what follows them. The targets after the index `older` are those of the labels that are
-- kept, except the first one kept.
pub record KeptSoFar (octets : List ℕ) (held : List Target) (now : Names) (labels : List (List ℕ))
    (start end older left next position : ℕ) : Type 0 where
  pub agrees : TableMatches octets held now
  pub there : IsTrue (is_there now (drop left labels))
  pub next_is : next ≡ name_offset now (drop left labels)
  pub apart : (others : List (List ℕ)) (place : Place) → get now others ≡ Some place → start ≤ place.at → end ≤ place.at
  pub here : 0 < left → IsPosition octets held (key next (prefixed (label_no labels (left - 1)))) position
  pub phase : IsFirst held start older next position
      ⊎ ((position ≡ older + 1) × (next ≡ end) × IsLater held start older next)

module _ {octets : List ℕ} {held : List Target} {now : Names} {labels : List (List ℕ)}
    {start end older left next position : ℕ} (at pointers : ℕ)
    (so_far : KeptSoFar octets held now labels start end older left next position)
    (some : 0 < left) (inside : left ≤ length labels) (new : get now (drop (left - 1) labels) ≡ None)
    (label_is : label_at octets at ≡ prefixed (label_no labels (left - 1))) (whole : IsWholeLabel octets at)
    (longer : end ≡ at + length (prefixed (label_no labels (left - 1)))) (after_header : 12 ≤ start) (late : start ≤ at)
    (near : at ≤ 16383) (few : pointers ≤ 126) where
  abbrev label : List ℕ
  label = label_no labels (left - 1)

  abbrev rest : List (List ℕ)
  rest = drop left labels

  abbrev place : Place
  place = record { at = at; pointers = pointers }

  abbrev target : Target
  target = record { at = at; next = next; pointers = pointers; digest = digest_of (prefixed label) }

  is : drop (left - 1) labels ≡ label ∷ rest
  is = one_left labels left some inside

  may : MayBeKept octets now label rest place
  may = record {
    new = ap (get now) (sym is) ∙ new;
    more = so_far.there;
    label_is = label_is;
    whole = whole;
    after_header = omega (arith, after_header, late);
    near = near;
    few = few;
    fresh = λ others other found same.
        let far = so_far.apart others other found (omega (arith, same, late)) in omega (arith, far, same, longer);
  }

  agrees_kept : TableMatches octets (insert held position target) (put now (label ∷ rest) place)
  agrees_kept =
      rw so_far.next_is (agrees_added octets held now so_far.agrees label rest place may position
      (rw so_far.next_is at so_far.here some))

  later : IsFirst held start older next position
      ⊎ ((position ≡ older + 1) × (next ≡ end) × IsLater held start older next)
      → IsLater (insert held position target) start older at
  later (inl first) =
      let all = first.1 in
      let grown = length-insert held position target (so_far.here some).within in
      record {
        many = omega (arith, all, grown);
        low = All-take (λ t. t.next < start) (older + 1) (insert held position target)
            (all_insert (λ t. t.next < start) position held target first.3 first.2);
        high = λ i d inside.
            absurd (omega (arith, inside, length-drop (older + 1) (insert held position target), grown, all));
      }
  later (inr (here, next_is, is)) =
      let many = is.many in
      let taken = length-take position held in
      record {
        many = omega (arith, many, length-insert held position target (so_far.here some).within);
        low = subst (All (λ t. t.next < start))
            (sym (take-append-le (older + 1) (take position held) (target ∷ drop position held)
            (omega (arith, here, taken, many)) ∙ take-take (older + 1) position held (omega (arith, here)))) is.low;
        high = let from = drop_at (take position held) (target ∷ drop position held) (older + 1)
            (omega (arith, here, taken, many)) in
            rw (from, here)
            (All-cons (λ t. at < t.next) target (drop (older + 1) held) (omega (arith, next_is, longer))
            (All-weaker (λ t. next < t.next) (λ t. at < t.next) (λ t less. omega (arith, less, next_is, longer))
            (drop (older + 1) held) is.high));
      }

  -- with one more label
  pub so_far_kept : KeptSoFar octets (insert held position target) (put now (label ∷ rest) place) labels start at older
      (left - 1) at (older + 1)
  so_far_kept = record {
    agrees = agrees_kept;
    there = rw is (ap is_some found);
    next_is = rw (is, found);
    apart = λ others other there. by_name others other (put_cases now (label ∷ rest) place others other there);
    here = λ some. later_position octets (insert held position target) start older at
        (prefixed (label_no labels (left - 1 - 1))) late (later so_far.phase);
    phase = inr (refl, refl, later so_far.phase);
  } where
    found : get (put now (label ∷ rest) place) (label ∷ rest) ≡ Some place
    found = get_new now (label ∷ rest) place

    by_name : (others : List (List ℕ)) (other : Place)
        → ((others ≡ label ∷ rest) × (other ≡ place)) ⊎ (get now others ≡ Some other)
        → start ≤ other.at → at ≤ other.at
    by_name others other (inl same) from = omega (arith, ap (λ p. p.at) same.1)
    by_name others other (inr old) from = omega (arith, so_far.apart others other old from, longer)
