-- A name that was written is read as such, and so are the names that pointers may lead to after it.
use Rattle.std.proofs.Common.{tests, if◌then◌else◌, ◌≡◌, ◌⊎◌, inl, inr, Bool, true, false, ℕ, ◌+◌, ◌-◌, ◌<◌, ◌≤◌}
use Rattle.std.proofs.Common.{Option, Some, None, List, [], ◌∷◌, ◌++◌, length, drop, replicate, is_some, refl, sym, ap}
use Rattle.std.proofs.Common.{◌∙◌, subst, arith, append_assoc, length-append, length-drop, drop_at, drop-drop, take_all}
use Rattle.std.proofs.Math.Seq.{drop-append_seam}
use Rattle.std.proofs.lemmas.List.{drop-append-le, length-replicate}
use Rattle.std.proofs.lemmas.Slice.{drop-append-drop}
use Rattle.std.specs.FinMap.{get, empty, insert, get-empty}
use Rattle.std.specs.Option.{option_or}
use Rattle.octseq.specs.Window.{Window, rest, at, whole}
use Rattle.octseq_dns_compress.proofs.Words.{NameFits, put_cases, some_or_none, Names, Place, labels_cmp, last_place}
use Rattle.octseq_dns_compress.proofs.Words.{name_octets, pointers_from, is_kept, with_labels, names_with, AreAt}
use Rattle.octseq_dns_compress.proofs.Words.{AreNamed}
use Rattle.octseq_dns_compress.proofs.KeptNames.{kept_parts}
use Rattle.octseq_dns_compress.proofs.Pieces.{octets_by, octets_new, name_next}
use Rattle.octseq_dns_compress.proofs.Steps.{Grows}
use Rattle.octseq_dns_name.specs.Name.{HasLabels, IsName}
use Rattle.octseq_dns_name.specs.NameFormat.{has_labels_takes}
use Rattle.octseq_dns_name.specs.Wire.{AreLabels}

-- a message with another header, followed by more
abbrev pub all_of : List ℕ → List ℕ → List ℕ → List ℕ
all_of header octets more = header ++ (drop 12 octets ++ more)

-- ---- no names

-- nothing is found among no names
pub none_named : (octets : List ℕ) → AreNamed octets empty
none_named octets = record {
  there = λ labels place found. absurd (never labels place found);
  near = λ labels place found. absurd (never labels place found);
  few = λ labels place found. absurd (never labels place found);
} where
  never : (labels : List (List ℕ)) (place : Place) → ¬ (get {R = labels_cmp} empty labels ≡ Some place)
  never labels place found = some_or_none (get empty labels) place found (get-empty labels_cmp labels)

-- ---- as the message changes

-- a message that grows, followed by more
all_grows : (header octets more after : List ℕ) → 12 ≤ length octets
    → all_of header octets (more ++ after) ≡ all_of header (octets ++ more) after
all_grows header octets more after headed =
    rw (drop-append-le 12 octets more headed, append_assoc (drop 12 octets) more after)

pub all_grown : (header octets new after : List ℕ) (grows : Grows octets new) → 12 ≤ length octets
    → all_of header octets (grows.0 ++ after) ≡ all_of header new after
all_grown header octets new after grows headed =
    all_grows header octets grows.0 after headed ∙ ap (λ octets. all_of header octets after) (sym grows.1)

-- labels stay as it grows
at_grows : (octets more : List ℕ) (place : ℕ) (labels : List (List ℕ)) (pointers : ℕ) → 12 ≤ length octets
    → AreAt octets place labels pointers → AreAt (octets ++ more) place labels pointers
at_grows octets more place labels pointers headed are = (
  are.0,
  λ header after long. subst (λ all. (v : Window) × HasLabels place (at place (whole all)) labels pointers v)
      (all_grows header octets more after headed) (are.1 header (more ++ after) long),
)

-- so do names
pub named_grows : (octets more : List ℕ) (names : Names) → 12 ≤ length octets → AreNamed octets names
    → AreNamed (octets ++ more) names
named_grows octets more names headed named = record {
  there = λ labels place found.
      at_grows octets more place.at labels place.pointers headed (named.there labels place found);
  near = named.near;
  few = named.few;
}

-- ---- a name that is read

-- names are before the end of the message
named_before : (octets : List ℕ) (names : Names) → 12 ≤ length octets → AreNamed octets names
    → (labels : List (List ℕ)) (place : Place) → get names labels ≡ Some place → place.at < length octets
named_before octets names headed named labels place found =
    let header : List ℕ = replicate 12 0 in
    let twelve = length-replicate {A = ℕ} 12 0 in
    let all = all_of header octets [] in
    let here = (named.there labels place found).1 header [] twelve in
    let room = has_labels_takes place.at (at place.at (whole all)) here.0 labels place.pointers here.1 in
    let long = length-append header (drop 12 octets ++ []) in
    omega (arith, room, long, length-append (drop 12 octets) [], length-drop 12 octets, headed, twelve)

-- what is left at an offset after the header, whatever follows the message
pub rest_at : (header octets more : List ℕ) (place : ℕ) → length header ≡ 12 → 12 ≤ place → place ≤ length octets
    → rest (at place (whole (all_of header octets more))) ≡ drop place octets ++ more
rest_at header octets more place headed late within =
    let all = all_of header octets more in
    let long = length-append header (drop 12 octets) in
    let left = length-drop 12 octets in
    let inside : place ≤ length (header ++ drop 12 octets) = omega (arith, long, left, headed, late, within) in
    take_all (length all - place) (drop place all) (omega (arith, length-drop place all))
    ∙ ap (drop place) (sym (append_assoc header (drop 12 octets) more))
    ∙ drop-append-le place (header ++ drop 12 octets) more inside
    ∙ ap (λ rest. rest ++ more) (drop-append-drop 12 octets header place late headed)

-- the octets of a name are at an offset, after the names
record IsWrittenAt (octets : List ℕ) (names : Names) (place : ℕ) (labels : List (List ℕ)) : Type 0 where
  pub each : AreLabels labels
  pub late : 12 ≤ place
  pub within : place ≤ length octets
  pub before : (others : List (List ℕ)) (other : Place) → get names others ≡ Some other → other.at < place
  pub octets_are : drop place octets ≡ name_octets names labels

-- so its labels are there
labels_at : (octets : List ℕ) (names : Names) (place : ℕ) (labels : List (List ℕ)) → AreNamed octets names
    → IsWrittenAt octets names place labels → (header more : List ℕ) → length header ≡ 12
    → HasLabels place (at place (whole (all_of header octets more))) labels (pointers_from (last_place names labels))
    (at (place + length (name_octets names labels)) (whole (all_of header octets more)))
labels_at octets names place labels named written header more headed =
    name_next names place (at place (whole (all_of header octets more))) labels more
    (record {
      late = λ others other found. (named.there others other found).0;
      before = written.before;
      there = λ others other found. (named.there others other found).1 header more headed;
    })
    written.each
    (rest_at header octets more place headed written.late written.within
    ∙ ap (λ front. front ++ more) written.octets_are)

-- and so they are if the name is written after a message
written_at : (octets : List ℕ) (names : Names) (labels : List (List ℕ)) → 12 ≤ length octets → AreNamed octets names
    → AreLabels labels → IsWrittenAt (octets ++ name_octets names labels) names (length octets) labels
written_at octets names labels headed named each = record {
  each = each;
  late = headed;
  within = omega (arith, length-append octets (name_octets names labels));
  before = named_before octets names headed named;
  octets_are = drop-append_seam octets (name_octets names labels);
}

-- at most as many pointers are followed as a name may have
few_from : (octets : List ℕ) (names : Names) → AreNamed octets names → (labels : List (List ℕ))
    → pointers_from (last_place names labels) ≤ 127
few_from octets names named [] = omega arith
few_from octets names named (label ∷ labels) =
    grind (arith, tests, named.few (label ∷ labels), few_from octets names named labels)

-- A name that is written after a message is read as that name, whatever its header says and whatever follows it.
pub name_is_read : (octets : List ℕ) (names : Names) (labels : List (List ℕ)) → 12 ≤ length octets
    → AreNamed octets names → NameFits labels → (header more : List ℕ) → length header ≡ 12
    → let all = header ++ (drop 12 (octets ++ name_octets names labels) ++ more) in
    IsName (at (length octets) (whole all)) labels
    (at (length octets + length (name_octets names labels)) (whole all))
name_is_read octets names labels headed named fits header more long = record {
  pointers = pointers_from (last_place names labels);
  has_labels = labels_at (octets ++ name_octets names labels) names (length octets) labels
      (named_grows octets (name_octets names labels) names headed named)
      (written_at octets names labels headed named fits.each) header more long;
  short = fits.short;
  few = few_from octets names named labels;
}

-- ---- the names after it is written

-- one more name
named_put : (octets : List ℕ) (names : Names) (labels : List (List ℕ)) (place : Place) → AreNamed octets names
    → AreAt octets place.at labels place.pointers → place.at ≤ 16383 → place.pointers ≤ 126
    → AreNamed octets (insert names labels place)
named_put octets names labels place named are near few = record {
  there = each (λ others other. AreAt octets other.at others other.pointers) are named.there;
  near = each (λ others other. other.at ≤ 16383) near named.near;
  few = each (λ others other. other.pointers ≤ 126) few named.few;
} where
  -- what holds of it and of the others holds of all
  each : (P : List (List ℕ) → Place → Type 0) → P labels place
      → ((others : List (List ℕ)) (other : Place) → get names others ≡ Some other → P others other)
      → (others : List (List ℕ)) (other : Place) → get (insert names labels place) others ≡ Some other → P others other
  each P new old others other found = by_name (put_cases names labels place others other found) where
    by_name : ((others ≡ labels) × (other ≡ place)) ⊎ (get names others ≡ Some other) → P others other
    by_name (inl (same, one)) = subst (P others) (sym one) (subst (λ l. P l place) (sym same) new)
    by_name (inr found) = old others other found

named_kept : (octets : List ℕ) (most : ℕ) (names : Names) (label : List ℕ) (labels : List (List ℕ)) (place : Place)
    (kept : Bool) → is_kept most names labels place ≡ kept → AreNamed octets names
    → AreAt octets place.at (label ∷ labels) place.pointers
    → AreNamed octets (if kept then insert names (label ∷ labels) place else names)
named_kept octets most names label labels place true is named are =
    let parts = kept_parts most names labels place is in
    named_put octets names (label ∷ labels) place named are parts.0 parts.1
named_kept octets most names label labels place false is named are = named

-- the labels after a new one are written after it
written_more : (octets : List ℕ) (names : Names) (place : ℕ) (label : List ℕ) (labels : List (List ℕ))
    → IsWrittenAt octets names place (label ∷ labels) → get names (label ∷ labels) ≡ None
    → IsWrittenAt octets names (place + (1 + length label)) labels
written_more octets names place label labels written none =
    let new : drop place octets ≡ length label ∷ (label ++ name_octets names labels) =
    written.octets_are ∙ ap (octets_by names label labels) none ∙ octets_new names label labels in
    let one : length (length label ∷ label) ≡ 1 + length label = omega arith in
    record {
      each = written.each.2;
      late = omega (arith, written.late);
      within = omega (arith, ap length new, length-drop place octets, length-append label (name_octets names labels));
      before = λ others other found. omega (arith, written.before others other found);
      octets_are = rw (← drop-drop (1 + length label) place octets, new)
          (drop_at (length label ∷ label) (name_octets names labels) (1 + length label) one);
    }

labels_named : (octets : List ℕ) (most : ℕ) (names : Names) (start : ℕ) (labels : List (List ℕ)) → AreNamed octets names
    → IsWrittenAt octets names start labels
    → AreNamed octets (with_labels most (pointers_from (last_place names labels)) names start labels)
labels_named octets most names start [] named written = named
labels_named octets most names start (label ∷ labels) named written =
    by_found (get names (label ∷ labels)) refl (
      written.late,
      λ header more headed. (
        at (start + length (name_octets names (label ∷ labels))) (whole (all_of header octets more)),
        labels_at octets names start (label ∷ labels) named written header more headed,
      ),
    )
    (λ none. labels_named octets most names (start + (1 + length label)) labels named
    (written_more octets names start label labels written none)) where
      by_found : (found : Option Place) → get names (label ∷ labels) ≡ found
          → AreAt octets start (label ∷ labels) (pointers_from (option_or found (last_place names labels)))
          → (get names (label ∷ labels) ≡ None → AreNamed octets
          (with_labels most (pointers_from (last_place names labels)) names (start + (1 + length label)) labels))
          → AreNamed octets
          (with_labels most (pointers_from (option_or found (last_place names labels))) names start (label ∷ labels))
      by_found (Some place) found are others = rw (ap is_some found) named
      by_found None found are others =
          rw (ap is_some found) (named_kept octets most _ label labels _ _ refl (others found) are)

-- After a name is written after a message, the names are at their places.
pub named_with : (most : ℕ) (octets : List ℕ) (names : Names) (labels : List (List ℕ)) → 12 ≤ length octets
    → AreNamed octets names → NameFits labels
    → AreNamed (octets ++ name_octets names labels) (names_with most names (length octets) labels)
named_with most octets names labels headed named fits =
    labels_named (octets ++ name_octets names labels) most names (length octets) labels
    (named_grows octets (name_octets names labels) names headed named)
    (written_at octets names labels headed named fits.each)
