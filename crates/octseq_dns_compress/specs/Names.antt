-- The names of a message that pointers may lead to, and how a name is written with them: RFC 1035, 4.1.4.
use Rattle.std.specs.Prelude.{ℕ, ◌+◌, ◌/◌, ◌%◌, ◌==◌, Bool, true, ◌&&◌, Option, Some, None, List, [], ◌∷◌, ◌++◌, length}
use Rattle.std.specs.Prelude.{if◌then◌else◌, nat_le, nat_lt, slice_index_or, flat_map}
use Rattle.std.specs.Cmp.Lexicographic.{slice_cmp}
use Rattle.std.specs.FinMap.{FinMap, get, insert, contains_key, len}
use Rattle.std.specs.Option.{option_or}
use Rattle.std.specs.Ordering.{nat_cmp}
use Rattle.std.specs.declared.cmp.Ordering.{Ordering}

-- A place in a message: its offset, and the number of pointers that are followed from there.
pub record Place : Type 0 where
  pub at : ℕ
  pub pointers : ℕ

-- an order of labels
abbrev pub labels_cmp : List (List ℕ) → List (List ℕ) → Ordering
labels_cmp = slice_cmp (slice_cmp nat_cmp)

-- the names that pointers may lead to: the labels of each, and its place
abbrev pub Names : Type 0
Names = FinMap labels_cmp Place

-- ---- how a name is written

-- the place of the longest suffix of a name that is there
abbrev pub last_place : Names → List (List ℕ) → Option Place
last_place names [] = None
last_place names (label ∷ labels) = option_or (get names (label ∷ labels)) (last_place names labels)

-- the labels before this suffix
abbrev pub first_labels : Names → List (List ℕ) → List (List ℕ)
first_labels names [] = []
first_labels names (label ∷ labels) =
    if contains_key names (label ∷ labels) then [] else label ∷ first_labels names labels

-- the label at an index
abbrev pub label_no : List (List ℕ) → ℕ → List ℕ
label_no labels index = slice_index_or labels index []

-- a label with its length octet
abbrev pub prefixed : List ℕ → List ℕ
prefixed label = length label ∷ label

-- labels with their length octets
abbrev pub labels_wire : List (List ℕ) → List ℕ
labels_wire labels = flat_map prefixed labels

-- the offset of a place, or 0 if there is none
abbrev pub at_or_zero : Option Place → ℕ
at_or_zero None = 0
at_or_zero (Some place) = place.at

-- the end of a name: the two octets of a pointer to an offset, or the root if the offset is 0, where no label is
abbrev pub ended : ℕ → List ℕ
ended next = if next == 0 then 0 ∷ [] else (192 + next / 256) ∷ (next % 256) ∷ []

-- The octets of a name: its first labels, followed by a pointer to its longest suffix that is there, or by the root if
-- there is none.
abbrev pub name_octets : Names → List (List ℕ) → List ℕ
name_octets names labels = labels_wire (first_labels names labels) ++ ended (at_or_zero (last_place names labels))

-- ---- the names that pointers may lead to after it is written

-- the number of pointers that are followed from each label that is written
abbrev pub pointers_from : Option Place → ℕ
pointers_from None = 0
pointers_from (Some place) = place.pointers + 1

-- labels are there, or are the root
abbrev pub is_there : Names → List (List ℕ) → Bool
is_there names [] = true
is_there names (label ∷ labels) = contains_key names (label ∷ labels)

-- A name is kept if a pointer can express its offset, at most 126 pointers are followed from there, fewer than `most`
-- names are there, and what follows its first label is there or is the root.
abbrev pub is_kept : ℕ → Names → List (List ℕ) → Place → Bool
is_kept most names rest place =
    nat_le place.at 16383 && (nat_le place.pointers 126 && (nat_lt (len names) most && is_there names rest))

-- the names, with those of the labels that are written from `start` on; the last labels are kept first
abbrev pub with_labels : ℕ → ℕ → Names → ℕ → List (List ℕ) → Names
with_labels most pointers names start [] = names
with_labels most pointers names start (label ∷ labels) =
    if contains_key names (label ∷ labels) then names
    else let more = with_labels most pointers names (start + (1 + length label)) labels in
    let place : Place = record { at = start; pointers = pointers } in
    if is_kept most more labels place then insert more (label ∷ labels) place else more

-- the names after a name is written from `start` on; at most `most` of them are kept
abbrev pub names_with : ℕ → Names → ℕ → List (List ℕ) → Names
names_with most names start labels = with_labels most (pointers_from (last_place names labels)) names start labels
