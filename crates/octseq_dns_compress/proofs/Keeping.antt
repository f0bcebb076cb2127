-- Each step of keeping the labels of a name.
use Rattle.std.proofs.Common.{IsTrue, nat_lt, if◌then◌else◌, ◌≡◌, Bool, inl, true, false, ℕ, zero, suc, ◌+◌, ◌-◌, ◌<◌}
use Rattle.std.proofs.Common.{◌≤◌, None, List, [], ◌∷◌, length, take, drop, refl, sym, ap, ◌∙◌, arith, take-append-drop}
use Rattle.std.proofs.Common.{true≢false, length-drop, insert, filter}
use Rattle.std.proofs.lemmas.Bool.{lt-leb}
use Rattle.std.proofs.lemmas.List.Elements.{filter-append}
use Rattle.std.specs.FinMap.{get, insert as put}
use Rattle.octseq_dns_compress.proofs.Words.{
  TableMatches,
  name_offset,
  IsSuffixMatch,
  place_there,
  digest_of,
  Names,
  Place,
}
use Rattle.octseq_dns_compress.proofs.Words.{at_or_zero, is_there, is_kept, label_no, last_place, prefixed, Target}
use Rattle.octseq_dns_compress.proofs.Words.{pointers_from, with_labels, names_with, AreLabelsWritten, SuffixMatch}
use Rattle.octseq_dns_compress.proofs.KeptNames.{absent, kept_from, unkept, with_known, with_one, with_other}
use Rattle.octseq_dns_compress.proofs.KeptSoFar.{KeptSoFar, offset_after, so_far_kept, whole_here, label_here}
use Rattle.octseq_dns_compress.proofs.PlainLabels.{last_label, one_left}

-- a target that isn't before an offset doesn't count among those that are
pub none_before : (start : ℕ) (held : List Target) (position : ℕ) (target : Target) → start ≤ target.at
    → filter (λ t. nat_lt t.at start) (insert held position target) ≡ filter (λ t. nat_lt t.at start) held
none_before start held position target late =
    let p = λ (t : Target). nat_lt t.at start in
    let front = take position held in
    let back = drop position held in
    filter-append p front (target ∷ back) ∙ rw (lt-leb (suc target.at) start (omega (arith, late)))
    (sym (filter-append p front back) ∙ ap (filter p) (take-append-drop position held))

module _ (most : ℕ) {octets : List ℕ} {held : List Target} {names : Names} {labels : List (List ℕ)} {start : ℕ}
    {ending : SuffixMatch} (agrees : TableMatches octets held names)
    (ends : IsSuffixMatch octets held names labels ending)
    (within : ending.written ≤ length labels)
    (written : AreLabelsWritten octets names start labels ending.written) where
  -- the number of pointers is that of what ends the name
  same_pointers : ending.pointers ≡ pointers_from (last_place names labels)
  same_pointers = ends.ends.pointers_are ∙ ap pointers_from ends.last

  -- the names, with those of this name that are kept from a label on
  abbrev now : ℕ → Names
  now left = with_labels most ending.pointers names (offset_after start labels left) (drop left labels)

  -- at the end, nothing is kept
  now_none : now ending.written ≡ names
  now_none = with_known most ending.pointers names (offset_after start labels ending.written)
      (drop ending.written labels) ends.ends.there

  agrees_with : (after : List Target) (more : Names) → TableMatches octets after more → now zero ≡ more
      → TableMatches octets after (names_with most names start labels)
  agrees_with after more agrees same =
      let begin : start ≡ offset_after start labels zero = omega arith in
      let all = ap (λ n. with_labels most ending.pointers names n labels) begin ∙ same in
      rw (← same_pointers, all) agrees

  module _ (left : ℕ) (some : 0 < left) (few_left : left ≤ ending.written) (at : ℕ)
      (same : at ≡ offset_after start labels (left - 1)) where
    abbrev label : List ℕ
    label = label_no labels (left - 1)

    abbrev rest : List (List ℕ)
    rest = drop left labels

    abbrev place : Place
    place = record { at = at; pointers = ending.pointers }

    here : drop (left - 1) labels ≡ label ∷ rest
    here = one_left labels left some (omega (arith, few_left, within))

    longer : offset_after start labels left ≡ at + length (prefixed label)
    longer = let more = last_label labels left (prefixed label) some (omega (arith, few_left, within)) refl in
        omega (arith, more, same)

    -- one more label is kept, or isn't
    now_is : (kept : Bool) → is_kept most (now left) rest place ≡ kept
        → now (left - 1) ≡ (if kept then put (now left) (label ∷ rest) place else now left)
    now_is kept is =
        rw (here, ← same) (with_one most ending.pointers names at label rest (now left) kept
        (ap (λ n. with_labels most ending.pointers names n rest) (omega (arith, longer)))
        (ap (get names) (sym here) ∙ ends.new (left - 1) (omega (arith, some, few_left))) is)

  -- the place of the label after this many
  abbrev place_of_no : ℕ → Place
  place_of_no k = record { at = offset_after start labels k; pointers = ending.pointers }

  -- if no label is kept from one on, these are all
  stopped : (left : ℕ) → left ≤ ending.written → (more : Names) → now left ≡ more
      → ((k : ℕ) → k < left → is_kept most more (drop (suc k) labels) (place_of_no k) ≡ false) → now zero ≡ more
  stopped zero few_left more is never = is
  stopped (suc k) few_left more is never =
      let one : k ≡ suc k - 1 = omega arith in
      stopped k (omega (arith, few_left)) more
      (ap now one ∙ now_is (suc k) (omega arith) few_left _ (ap (offset_after start labels) one) false
      (ap (λ m. is_kept most m (drop (suc k) labels) (place_of_no k)) is ∙ never k (omega arith)) ∙ is)
      (λ j less. never j (omega (arith, less)))

  -- there are too many pointers
  pub kept_none : 126 < ending.pointers → TableMatches octets held (names_with most names start labels)
  kept_none many =
      agrees_with held names agrees (stopped ending.written (omega arith) names now_none
      (λ k less. unkept most names (drop (suc k) labels) (place_of_no k)
      (λ near few room there. omega (arith, few, many))))

  -- the names that were there are before it
  before_start : (others : List (List ℕ)) → IsTrue (is_there names others) → name_offset names others < start
  before_start [] there =
      omega (arith, ap at_or_zero agrees.root, written.after_header)
  before_start (label ∷ others) there =
      let place = place_there names label others there in
      omega (arith, ap at_or_zero place.1, written.after_names (label ∷ others) place.0 place.1)

  -- nothing is kept yet
  pub kept_yet : (end older : ℕ) → older ≡ length held → ending.position ≤ length held
      → KeptSoFar octets held (now ending.written) labels start end older ending.written ending.next ending.position
  kept_yet end older all inside =
      rw now_none (record {
        agrees = agrees;
        there = ends.ends.there;
        next_is = ends.ends.next_is;
        apart = λ others place found late. let less = written.after_names others place found in
            absurd (omega (arith, less, late));
        here = ends.position;
        phase = inl (
          omega (arith, inside, all),
          sym all,
          omega (arith, before_start (drop ending.written labels) ends.ends.there, ends.ends.next_is),
          λ k d less.
              let held_is = agrees.held k d less in
              let has = agrees.all held_is.label held_is.rest held_is.place held_is.there in
              omega (arith, before_start held_is.rest has.more, ap (λ t. t.next) held_is.target_is),
        );
      })

  module _ {after : List Target} {end older left next position : ℕ}
      (so_far : KeptSoFar octets after (now left) labels start end older left next position)
      (some : 0 < left) (few_left : left ≤ ending.written) (at : ℕ) (same : at ≡ offset_after start labels (left - 1))
    where
      abbrev here_place : Place
      here_place = record { at = at; pointers = ending.pointers }

      -- the labels before the kept ones are new
      still_new : (k : ℕ) → k < left → get (now left) (drop k labels) ≡ None
      still_new k less =
          let fewer = length-drop k labels in
          let none = length-drop left labels in
          with_other most ending.pointers names (offset_after start labels left) (drop left labels) (drop k labels)
          (omega (arith, less, fewer, none, few_left, within)) ∙ ends.new k (omega (arith, less, few_left))

      -- one more is kept
      pub kept_at : (new : List Target) (digest : ℕ) → digest ≡ digest_of (prefixed (label_no labels (left - 1)))
          → end ≡ offset_after start labels left
          → new ≡ insert after position (record { at = at; next = next; pointers = ending.pointers; digest = digest })
          → at ≤ 16383
          → ending.pointers ≤ 126 → ¬ (most ≤ length after)
          → KeptSoFar octets new (now (left - 1)) labels start at older (left - 1) at (older + 1)
      kept_at new digest digested end_is is near few room =
          let less : left - 1 < ending.written = omega (arith, some, few_left) in
          let long = longer left some few_left at same in
          let target_is = is ∙ ap (λ n. insert after position
          (record { at = at; next = next; pointers = ending.pointers; digest = n })) digested in
          let names_are = now_is left some few_left at same true
          (kept_from most (now left) (drop left labels) here_place near
          few (omega (arith, so_far.agrees.count, room)) so_far.there) in
          rw (target_is, names_are)
          (so_far_kept at ending.pointers so_far some (omega (arith, few_left, within))
          (still_new (left - 1) (omega (arith, some)))
          (label_here written (left - 1) less within at same) (whole_here written (left - 1) less within at same)
          (omega (arith, end_is, long)) written.after_header (omega (arith, same)) near few)

      -- if no more are kept, these are all
      kept_stopped : is_kept most (now left) (drop left labels) here_place ≡ false
          → TableMatches octets after (names_with most names start labels)
      kept_stopped stops =
          agrees_with after (now left) so_far.agrees
          (stopped (left - 1) (omega (arith, few_left)) (now left) (now_is left some few_left at same false stops)
          (λ k less. unkept most (now left) (drop (suc k) labels) (place_of_no k) (λ near few room there.
          let long = length-drop (suc k) labels in
          true≢false (sym there ∙ absent (now left) (drop (suc k) labels) (omega (arith, long, less, few_left, within))
          (still_new (suc k) (omega (arith, less)))))))

      pub kept_far : 16383 < at → TableMatches octets after (names_with most names start labels)
      kept_far far =
          kept_stopped (unkept most (now left) (drop left labels) here_place
          (λ near few room there. omega (arith, far, near)))

      pub kept_full : most ≤ length after → TableMatches octets after (names_with most names start labels)
      kept_full full =
          let count = so_far.agrees.count in
          kept_stopped
          (unkept most (now left) (drop left labels) here_place
          (λ near few room there. omega (arith, full, count, room)))

  -- all are kept
  pub kept_all : {after : List Target} {end older left next position : ℕ}
      → KeptSoFar octets after (now left) labels start end older left next position → left ≡ 0
      → TableMatches octets after (names_with most names start labels)
  kept_all {after = after} {left = left} so_far none = agrees_with after (now left) so_far.agrees (ap now (sym none))
