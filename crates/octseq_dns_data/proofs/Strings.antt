-- Character strings, as a format finds them: octets after their length.
use Rattle.std.proofs.Common.{◌≡◌, ℕ, ◌+◌, ◌-◌, ◌^◌, ◌<◌, ◌≤◌, List, [], ◌∷◌, ◌++◌, length, map}
use Rattle.std.proofs.Common.{refl, sym, ap, ◌∙◌, subst, arith}
use Rattle.std.proofs.lemmas.List.{append-nil, nil_from_length}
use Rattle.std.proofs.lemmas.List.Concat.{flat_map-cons}
use Rattle.std.proofs.lemmas.List.Elements.{All-cons, All-nil}
use Rattle.std.proofs.lemmas.List.Sums.{sum_by-cons}
use Rattle.std.specs.List.{All, AllByRecursion}
use Rattle.std.specs.Prelude.{slice_range}
use Rattle.octseq.specs.Integer.{be, octets_be}
use Rattle.octseq.specs.Part.{part, part_of}
use Rattle.octseq.specs.Window.{Window, at, left, nested, next, rest}
use Rattle.octseq.proofs.WrittenBack.{small_be}
use Rattle.octseq_dns_data.specs.Strings.{HasString}
use Rattle.octseq_dns_data.specs.OneRow.{row_on, string_item}
use Rattle.octseq_dns_data.specs.Strings.{spelling}
use Rattle.octseq_format.specs.Canonical.{IsSoundWindow, many_rest, many_next, each_next}
use Rattle.octseq_format.specs.Counted.{Counted, CountFits, counted_octets, onward_counted, canonical_counted}
use Rattle.octseq_format.specs.Laws.{Relation, NoneAt}
use Rattle.octseq_format.specs.Rest.{IsRest, canonical_rest}
use Rattle.octseq_format.specs.Row.{Row, RowTo, Moved, row_octets, row_written, onward_row, onward_moved}
use Rattle.octseq_format.specs.Row.{canonical_moved, sound_row, row_turns}
use Rattle.octseq_format.proofs.Parts.{part_of_counted, counted_of_part}
use Rattle.octseq_format.proofs.RowSteps.{row_by}

-- octets after their length, with at least one octet for the length
abbrev pub IsFound : Relation Window
IsFound = Moved (Counted 1 0 IsRest)

-- what was found is a string
pub string_is : (w inside v : Window) → IsFound w inside v → HasString w (rest inside) v
string_is w inside v is =
    let part = part_of_counted 1 w inside v is.0 in
    (part.0, ap rest part.1, part.2)

-- and so are all of them
pub strings_are : (w : Window) (found : List Window) (v : Window) → Row IsFound w found v
    → Row HasString w (map rest found) v
strings_are w found v is = row_by IsFound HasString rest string_is w v found is

-- strings are found
pub strings_found : (w : Window) (strings : List (List ℕ)) (v : Window) → Row HasString w strings v
    → (found : List Window) × Row IsFound w found v
strings_found w [] v is = ([], is)
strings_found w (string ∷ strings) v is =
    let u = is.0 in
    let first = counted_of_part 1 w (part 1 w) u (is.1.0, refl, is.1.2) in
    let more = strings_found u strings v is.2 in
    (part 1 w ∷ more.0, (u, (first, string_item.moving.on w string u is.1), more.1))

-- ---- windows with another end

-- the window with this end
abbrev pub up_to : ℕ → Window → Window
up_to end w = record { octets = w.octets; position = w.position; end = end }

-- so is the window of the next octets, up to a place
pub same_up_to : (w u : Window) (place end : ℕ) → place ≡ w.position → place ≤ end → u ≡ nested (end - place) w
    → u ≡ up_to end w
same_up_to w u place end is before same = same ∙ ap (λ end. up_to end w) (omega (arith, is, before))

-- strings are also in a window that ends later
pub wide_strings : (end : ℕ) (w : Window) (strings : List (List ℕ)) (v : Window) → w.end ≤ end
    → Row HasString w strings v → Row HasString (up_to end w) strings (up_to end v)
wide_strings end w [] v further is = ap (up_to end) is
wide_strings end w (string ∷ strings) v further is =
    let room = is.1.0 in
    let same = string_item.ends w string is.0 is.1 in (
      up_to end is.0,
      (
        (omega (arith, further, room.0), omega (arith, further, room.0, room.1)),
        is.1.1,
        ap (up_to end) is.1.2,
      ),
      wide_strings end is.0 strings v (omega (arith, further, same)) is.2,
    )

-- and in one that ends where they do
pub narrow_strings : (end : ℕ) (w : Window) (strings : List (List ℕ)) (v : Window) → v.position ≡ end
    → Row HasString w strings v → Row HasString (up_to end w) strings (up_to end v)
narrow_strings end w [] v ends is = ap (up_to end) is
narrow_strings end w (string ∷ strings) v ends is =
    let room = is.1.0 in
    let moved = ap (λ (v : Window). v.position) is.1.2 in
    let more = row_on HasString string_item is.0 v strings is.2 in (
      up_to end is.0,
      (
        (omega (arith, moved, more, ends), omega (arith, moved, more, ends)),
        is.1.1,
        ap (up_to end) is.1.2,
      ),
      narrow_strings end is.0 strings v ends is.2,
    )

-- they end in the window
pub strings_within : (w : Window) (strings : List (List ℕ)) (v : Window) → w.position ≤ w.end
    → Row HasString w strings v → v.position ≤ w.end
strings_within w strings v ordered is =
    let found = strings_found w strings v is in
    let on = (onward_row IsFound (onward_moved (onward_counted 1 0 IsRest))).on w found.0 v ordered found.1 in
    omega (arith, on.1, on.3)

-- so if none are found up to a place, none end there
pub no_strings : (w : Window) (end : ℕ) → NoneAt (RowTo IsFound) (up_to end w) → (strings : List (List ℕ)) (v : Window)
    → Row HasString w strings v → v.position ≡ end → ⊥
no_strings w end none strings v is ends =
    let found = strings_found (up_to end w) strings (up_to end v) (narrow_strings end w strings v ends is) in
    none found.0 (up_to end v) (found.1, omega (arith, ends))

-- ---- what was found is written as it was

spelled : (strings : List (List ℕ)) → row_octets (counted_octets 1 0 (λ octets. octets)) strings ≡ spelling strings
spelled [] = refl
spelled (string ∷ strings) =
    let counted = counted_octets 1 0 (λ octets. octets) in
    let count : 0 + length string ≡ length string = omega arith in
    flat_map-cons counted string strings ∙ ap (λ more. counted string ++ more) (spelled strings)
    ∙ ap (λ n. (octets_be 1 n ++ string) ++ spelling strings) count ∙ sym (flat_map-cons (part_of 1) string strings)

short : (strings : List (List ℕ)) → AllByRecursion (CountFits 1 0 (λ octets. octets) (λ _. Unit {0})) strings
    → All (λ string. length string ≤ 255) strings
short [] each = All-nil (λ string. length string ≤ 255)
short (string ∷ strings) each =
    let few : 0 + length string < 256 ^ 1 = each.0.tag_fits in
    All-cons (λ string. length string ≤ 255) string strings (omega (arith, few)) (short strings each.1)

-- The strings from a window's position to a place: what they are, their octets, and that none is too long.
pub record Taken (w : Window) (end : ℕ) (strings : List (List ℕ)) : Type 0 where
  pub row : Row HasString w strings (at end w)
  pub spelled : slice_range w.octets w.position end ≡ spelling strings
  pub short : All (λ string. length string ≤ 255) strings

pub taken : (w : Window) (end : ℕ) (found : List Window) (v : Window) → IsSoundWindow w → w.position ≤ end → end ≤ w.end
    → RowTo IsFound (up_to end w) found v → Taken w end (map rest found)
taken w end found v sound ordered within is =
    let u = up_to end w in
    let said = map rest found in
    let inside : IsSoundWindow u =
    record { each = sound.each; ordered = ordered; within = omega (arith, within, sound.within) } in
    let on = (onward_row IsFound (onward_moved (onward_counted 1 0 IsRest))).on u found v ordered is.0 in
    let canonical = canonical_moved (canonical_counted {k = 1} {extra = 0} canonical_rest) in
    let row = row_written canonical u found v inside is.0 in
    let more = many_rest v (sound_row canonical u found v inside is.0) in
    let none = is.1 in
    let place : v.position ≡ end = omega (arith, on.1, on.3, none) in
    record {
      row = subst (Row HasString w said)
          (ap (λ octets. record { octets = octets; position = v.position; end = w.end }) on.0 ∙ ap (λ p. at p w) place)
          (wide_strings w.end u said v within (strings_are u found v is.0));
      spelled = row.1 ∙ ap (λ more. row_octets (counted_octets 1 0 (λ octets. octets)) said ++ more)
          (nil_from_length (rest v) (omega (arith, more, none))) ∙ append-nil _ ∙ spelled said;
      short = short said row.0;
    }

-- if something was found, there is a string
pub some_found : (found : List Window) → (found ≡ [] → ⊥) → 1 ≤ length (map rest found)
some_found [] some = absurd (some refl)
some_found (x ∷ found) some = omega arith

-- and if nil_from_length was found, nil_from_length was left
pub none_found : (w v : Window) (found : List Window) → found ≡ [] → RowTo IsFound w found v → left w ≡ 0
none_found w v found none is =
    let here = subst (λ found. Row IsFound w found v) none is.0 in
    ap left (sym here) ∙ is.1

-- a string is as short as its length can say
pub short_string : (w inside v : Window) → IsSoundWindow w → Counted 1 0 IsRest w inside v → left inside ≤ 255
short_string w inside v sound is =
    let small = small_be (next 1 w) (each_next 1 w sound) in
    let number = is.2 in
    let few = subst (λ n. be (next 1 w) < 256 ^ n) (many_next 1 w sound number.0) small in
    let value = number.1 in
    let same = ap left is.3.2.0 in
    omega (arith, few, value, same)

-- each value of a row counts one turn
pub turns_each : {A : Type 0} (row : List A) → row_turns (λ _. 0) row ≡ length row
turns_each [] = refl
turns_each (one ∷ row) =
    let first : row_turns (λ _. 0) (one ∷ row) ≡ 1 + row_turns (λ _. 0) row = sum_by-cons (λ _. 1 + 0) one row in
    let more = turns_each row in
    omega (arith, first, more)
