-- A name is no longer than without compression, and isn't compressed if there are no names.
use Rattle.std.proofs.Common.{if◌then◌else◌, ◌/◌, ◌%◌, ◌==◌, ◌≡◌, Bool, true, false, ℕ, ◌+◌, ◌≤◌, Option, Some, None}
use Rattle.std.proofs.Common.{List, [], ◌∷◌, ◌++◌, length, refl, sym, ap, ◌∙◌, arith, length-append}
use Rattle.std.specs.FinMap.{get, empty, get-empty}
use Rattle.octseq_dns_compress.proofs.Words.{Names, Place, labels_cmp, ended, name_octets, last_place, pointers_from}
use Rattle.octseq_dns_compress.proofs.Words.{with_labels, names_with, State, Field, Entry, with_octets, with_field}
use Rattle.octseq_dns_compress.proofs.Words.{with_fields, with_data, with_entry, with_entries}
use Rattle.octseq_dns_compress.proofs.KeptNames.{unkept, with_one}
use Rattle.octseq_dns_compress.proofs.Pieces.{octets_by, octets_new}
use Rattle.octseq_dns_name.specs.Name.{wire_length}
use Rattle.octseq_dns_name.specs.NameFormat.{wire_more}
use Rattle.octseq_dns_name.specs.Wire.{wire}
use Rattle.octseq_dns_name.proofs.Names.{wire_some}
use Rattle.octseq_dns_compress.proofs.Fields.{counted_length}
use Rattle.octseq_dns_name.proofs.Wires.{wire_has}

-- its end has at most two octets
ended_most : (n : ℕ) → length (ended n) ≤ 2
ended_most n = by (n == 0) where
  by : (root : Bool) → length (if root then 0 ∷ [] else (192 + n / 256) ∷ (n % 256) ∷ []) ≤ 2
  by true = omega arith
  by false = omega arith

-- A name has no more octets than its wire form.
pub name_shorter : (names : Names) (labels : List (List ℕ)) → length (name_octets names labels) ≤ wire_length labels
name_shorter names [] = omega arith
name_shorter names (label ∷ labels) = by_found (get names (label ∷ labels)) (name_shorter names labels) where
  by_found : (found : Option Place) → length (name_octets names labels) ≤ wire_length labels
      → length (octets_by names label labels found) ≤ wire_length (label ∷ labels)
  by_found (Some place) shorter =
      omega (arith, wire_some labels, ended_most place.at)
  by_found None shorter =
      omega (arith, ap length (octets_new names label labels), length-append label (name_octets names labels), shorter)

-- if there are no names, it is its wire form
pub plain_octets : (labels : List (List ℕ)) → name_octets empty labels ≡ wire labels
plain_octets [] = refl
plain_octets (label ∷ labels) =
    ap (octets_by empty label labels) (get-empty labels_cmp (label ∷ labels)) ∙ octets_new empty label labels
    ∙ ap (λ rest. length label ∷ (label ++ rest)) (plain_octets labels) ∙ sym (wire_more label labels)

labels_plain : (pointers start : ℕ) (labels : List (List ℕ)) → with_labels 0 pointers empty start labels ≡ empty
labels_plain pointers start [] = refl
labels_plain pointers start (label ∷ labels) =
    with_one 0 pointers empty start label labels empty false
    (labels_plain pointers (start + (1 + length label)) labels)
    (get-empty labels_cmp (label ∷ labels))
    (unkept 0 empty labels (record { at = start; pointers = pointers }) (λ near few room there. omega (arith, room)))

-- and if none may be kept, there are none after it
pub plain_names : (start : ℕ) (labels : List (List ℕ)) → names_with 0 empty start labels ≡ empty
plain_names start labels = labels_plain (pointers_from (last_place empty labels)) start labels

-- ---- fields and entries

-- A message is no longer than another one, which has no names.
record IsShorter (s t : State) : Type 0 where
  pub less : length s.octets ≤ length t.octets
  pub none : t.names ≡ empty

field_shorter : (most : ℕ) (s t : State) (field : Field) → IsShorter s t
    → IsShorter (with_field most s field) (with_field 0 t field)
field_shorter most s t (Field.name labels) is = record {
  less = let other = length-append t.octets (name_octets t.names labels) in
      let shorter = name_shorter s.names labels in
      let plain = ap (λ names. length (name_octets names labels)) is.none ∙ ap length (plain_octets labels)
      ∙ wire_has labels in
      omega (arith, is.less, length-append s.octets (name_octets s.names labels), other, shorter, plain);
  none = ap (λ names. names_with 0 names (length t.octets) labels) is.none ∙ plain_names (length t.octets) labels;
}
field_shorter most s t (Field.octets more) is = record {
  less = omega (arith, is.less, length-append s.octets more, length-append t.octets more);
  none = is.none;
}

fields_shorter : (most : ℕ) (s t : State) (fields : List Field) → IsShorter s t
    → IsShorter (with_fields most s fields) (with_fields 0 t fields)
fields_shorter most s t [] is = is
fields_shorter most s t (field ∷ fields) is =
    fields_shorter most (with_field most s field) (with_field 0 t field) fields (field_shorter most s t field is)

data_shorter : (most : ℕ) (s t : State) (fields : Option (List Field)) → IsShorter s t
    → IsShorter (with_data most s fields) (with_data 0 t fields)
data_shorter most s t None is = is
data_shorter most s t (Some fields) is =
    let count = Field.octets (0 ∷ 0 ∷ []) in
    let shorter = fields_shorter most (with_octets s (0 ∷ 0 ∷ [])) (with_octets t (0 ∷ 0 ∷ [])) fields
    (field_shorter most s t count is) in
    record {
      less = omega (arith, shorter.less, counted_length most s fields, counted_length 0 t fields);
      none = shorter.none;
    }

entry_shorter : (most : ℕ) (s t : State) (entry : Entry) → IsShorter s t
    → IsShorter (with_entry most s entry) (with_entry 0 t entry)
entry_shorter most s t entry is =
    data_shorter most (with_fields most s entry.head) (with_fields 0 t entry.head) entry.data_fields
    (fields_shorter most s t entry.head is)

entries_shorter : (most : ℕ) (s t : State) (entries : List Entry) → IsShorter s t
    → IsShorter (with_entries most s entries) (with_entries 0 t entries)
entries_shorter most s t [] is = is
entries_shorter most s t (entry ∷ entries) is =
    entries_shorter most (with_entry most s entry) (with_entry 0 t entry) entries (entry_shorter most s t entry is)

pub entries_never_longer : (most : ℕ) (s : State) (entries : List Entry) → length (with_entries most s entries).octets
    ≤ length (with_entries 0 (record { octets = s.octets; names = empty }) entries).octets
entries_never_longer most s entries =
    (entries_shorter most s (record { octets = s.octets; names = empty }) entries
    (record { less = omega arith; none = refl })).less
