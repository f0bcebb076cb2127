-- What a message becomes when fields, entries of fields, or lists of entries are appended.
use Rattle.std.specs.Prelude.{ℕ, ◌+◌, Option, Some, None, List, [], ◌∷◌, ◌++◌, length, drop, refl, sum_by}
use Rattle.std.specs.Coded.{Coded, code_by, coded×, coded_list, coded_ℕ}
use Rattle.octseq.specs.Part.{part_of}
use Rattle.octseq_dns_compress.specs.NamesOf.{names_code}
use Rattle.octseq_dns_compress.specs.Names.{Names, name_octets, names_with}

-- The octets of a message so far, and the names in it that pointers may lead to.
pub record State : Type 0 where
  pub octets : List ℕ
  pub names : Names

-- states are equal in at most one way
abbrev pub state_code : Coded State
state_code = code_by (List ℕ × Names) (coded× (coded_list coded_ℕ) names_code) (λ s. (s.octets, s.names))
    (λ c. record { octets = c.0; names = c.1 }) (λ _. refl)

-- A field: the labels of a name, which may be compressed, or other octets.
pub data Field : Type 0 where
  name : List (List ℕ) → Field
  octets : List ℕ → Field

-- ---- what a message becomes

-- with more octets
abbrev pub with_octets : State → List ℕ → State
with_octets state more = record { octets = state.octets ++ more; names = state.names }

-- with another name; at most `most` names are kept
abbrev pub with_name : ℕ → State → List (List ℕ) → State
with_name most state labels = record {
  octets = state.octets ++ name_octets state.names labels;
  names = names_with most state.names (length state.octets) labels;
}

-- with another field
abbrev pub with_field : ℕ → State → Field → State
with_field most state (Field.name labels) = with_name most state labels
with_field most state (Field.octets more) = with_octets state more

-- with more fields, one after another
abbrev pub with_fields : ℕ → State → List Field → State
with_fields most state [] = state
with_fields most state (field ∷ fields) = with_fields most (with_field most state field) fields

-- with the length of the data written into the two octets before it
abbrev pub count_put : State → State → State
count_put before after = record {
  octets = before.octets ++ part_of 2 (drop (length before.octets + 2) after.octets);
  names = after.names;
}

-- with more fields, after their length of two octets
abbrev pub with_counted : ℕ → State → List Field → State
with_counted most state fields = count_put state (with_fields most (with_octets state (0 ∷ 0 ∷ [])) fields)

-- with another header
abbrev pub with_header : State → List ℕ → State
with_header state header = record { octets = header ++ drop 12 state.octets; names = state.names }

-- An entry: fields, followed by other fields after their length, or by nothing.
pub record Entry : Type 0 where
  pub head : List Field
  pub data_fields : Option (List Field)

-- with those other fields, if any
abbrev pub with_data : ℕ → State → Option (List Field) → State
with_data most state None = state
with_data most state (Some fields) = with_counted most state fields

-- with another entry
abbrev pub with_entry : ℕ → State → Entry → State
with_entry most state entry = with_data most (with_fields most state entry.head) entry.data_fields

-- with more entries, one after another
abbrev pub with_entries : ℕ → State → List Entry → State
with_entries most state [] = state
with_entries most state (entry ∷ entries) = with_entries most (with_entry most state entry) entries

-- ---- the number of labels

abbrev pub field_labels : Field → ℕ
field_labels (Field.name labels) = length labels
field_labels (Field.octets more) = 0

-- the labels of the names among fields
abbrev pub label_count : List Field → ℕ
label_count fields = sum_by field_labels fields
