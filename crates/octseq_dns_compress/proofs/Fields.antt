-- What fields and entries add to a message: octets after those that it has. They don't depend on its header.
use Rattle.std.proofs.Common.{◌≡◌, ℕ, ◌+◌, ◌-◌, ◌≤◌, Option, Some, None, List, [], ◌∷◌, ◌++◌, length, take, drop, refl}
use Rattle.std.proofs.Common.{sym, ap, ◌∙◌, arith, append_assoc, append-nil, length-append, length-drop}
use Rattle.std.proofs.Math.Seq.{take-append_seam}
use Rattle.std.proofs.lemmas.List.{drop-append-le}
use Rattle.std.proofs.lemmas.Slice.{drop-append-drop}
use Rattle.octseq.specs.Integer.{octets_be}
use Rattle.octseq.specs.Part.{part_of}
use Rattle.octseq.proofs.Written.{length_be}
use Rattle.octseq_dns_compress.specs.Names.{Names, name_octets, names_with}
use Rattle.octseq_dns_compress.specs.State.{State, Field, Entry, with_octets, with_field, with_fields, count_put}
use Rattle.octseq_dns_compress.specs.State.{with_counted, with_data, with_entry, with_entries, with_header}
use Rattle.octseq_dns_compress.proofs.Steps.{Grows, grown_length}

-- ---- octets come after others

grows_none : (octets : List ℕ) → Grows octets octets
grows_none octets = ([], sym (append-nil octets))

pub grows_on : (a b c : List ℕ) → Grows a b → Grows b c → Grows a c
grows_on a b c first then =
    (first.0 ++ then.0, then.1 ∙ ap (λ o. o ++ then.0) first.1 ∙ append_assoc a first.0 then.0)

pub field_grows : (most : ℕ) (s : State) (field : Field) → Grows s.octets (with_field most s field).octets
field_grows most s (Field.name labels) = (name_octets s.names labels, refl)
field_grows most s (Field.octets more) = (more, refl)

pub fields_grow : (most : ℕ) (s : State) (fields : List Field) → Grows s.octets (with_fields most s fields).octets
fields_grow most s [] = grows_none s.octets
fields_grow most s (field ∷ fields) =
    let then = with_field most s field in
    grows_on s.octets then.octets (with_fields most then fields).octets (field_grows most s field)
    (fields_grow most then fields)

pub counted_grows : (most : ℕ) (s : State) (fields : List Field) → Grows s.octets (with_counted most s fields).octets
counted_grows most s fields =
    let after = with_fields most (with_octets s (0 ∷ 0 ∷ [])) fields in
    (part_of 2 (drop (length s.octets + 2) after.octets), refl)

data_grows : (most : ℕ) (s : State) (fields : Option (List Field)) → Grows s.octets (with_data most s fields).octets
data_grows most s None = grows_none s.octets
data_grows most s (Some fields) = counted_grows most s fields

pub entry_grows : (most : ℕ) (s : State) (entry : Entry) → Grows s.octets (with_entry most s entry).octets
entry_grows most s entry =
    let then = with_fields most s entry.head in
    grows_on s.octets then.octets (with_entry most s entry).octets (fields_grow most s entry.head)
    (data_grows most then entry.data_fields)

pub entries_grow : (most : ℕ) (s : State) (entries : List Entry)
    → Grows s.octets (with_entries most s entries).octets
entries_grow most s [] = grows_none s.octets
entries_grow most s (entry ∷ entries) =
    let then = with_entry most s entry in
    grows_on s.octets then.octets (with_entries most then entries).octets (entry_grows most s entry)
    (entries_grow most then entries)

-- writing the length of data doesn't change the number of octets
pub counted_length : (most : ℕ) (s : State) (fields : List Field)
    → length (with_counted most s fields).octets
    ≡ length (with_fields most (with_octets s (0 ∷ 0 ∷ [])) fields).octets
counted_length most s fields =
    let from = with_octets s (0 ∷ 0 ∷ []) in
    let after = with_fields most from fields in
    let data_octets = drop (length s.octets + 2) after.octets in
    let outer = length-append s.octets (part_of 2 data_octets) in
    let left = length-drop (length s.octets + 2) after.octets in
    let less = grown_length from.octets after.octets (fields_grow most from fields) in
    let inner = length-append (octets_be 2 (length data_octets)) data_octets in
    omega (arith, outer, left, length-append s.octets (0 ∷ 0 ∷ []), less, inner, length_be 2 (length data_octets))

-- states with equal octets and names are equal
pub one_state : {octets others : List ℕ} {names more : Names} → octets ≡ others → names ≡ more
    → ◌≡◌ {A = State} (record { octets = octets; names = names }) (record { octets = others; names = more })
one_state octets names = λ i. record { octets = octets i; names = names i }

-- ---- what fields add depends on the names and the length alone

-- Two messages become others, with the same more octets and the same names.
pub record AddAlike (s t new then : State) : Type 0 where
  pub more : List ℕ
  pub one : new.octets ≡ s.octets ++ more
  pub other : then.octets ≡ t.octets ++ more
  pub names : new.names ≡ then.names

field_alike : (most : ℕ) (s t : State) (field : Field) → s.names ≡ t.names → length s.octets ≡ length t.octets
    → AddAlike s t (with_field most s field) (with_field most t field)
field_alike most s t (Field.name labels) names long = record {
  more = name_octets s.names labels;
  one = refl;
  other = ap (λ n. t.octets ++ name_octets n labels) (sym names);
  names = λ i. names_with most (names i) (long i) labels;
}
field_alike most s t (Field.octets more) names long = record { more = more; one = refl; other = refl; names = names }

pub fields_alike : (most : ℕ) (s t : State) (fields : List Field) → s.names ≡ t.names
    → length s.octets ≡ length t.octets → AddAlike s t (with_fields most s fields) (with_fields most t fields)
fields_alike most s t [] names long =
    record { more = []; one = sym (append-nil s.octets); other = sym (append-nil t.octets); names = names }
fields_alike most s t (field ∷ fields) names long =
    let first = field_alike most s t field names long in
    let other = ap length first.other ∙ length-append t.octets first.more in
    let then = fields_alike most (with_field most s field) (with_field most t field) fields first.names
    (omega (arith, ap length first.one ∙ length-append s.octets first.more, other, long)) in
    record {
      more = first.more ++ then.more;
      one = then.one ∙ ap (λ o. o ++ then.more) first.one ∙ append_assoc s.octets first.more then.more;
      other = then.other ∙ ap (λ o. o ++ then.more) first.other ∙ append_assoc t.octets first.more then.more;
      names = then.names;
    }

-- ---- another header

module _ (header : List ℕ) (twelve : length header ≡ 12) where
  pub headed_length : (s : State) → 12 ≤ length s.octets → length (with_header s header).octets ≡ length s.octets
  headed_length s late =
      omega (arith, length-append header (drop 12 s.octets), length-drop 12 s.octets, twelve, late)

  headed_more : (s : State) (more : List ℕ) → 12 ≤ length s.octets
      → (header ++ drop 12 s.octets) ++ more ≡ header ++ drop 12 (s.octets ++ more)
  headed_more s more late =
      rw (drop-append-le 12 s.octets more late, append_assoc header (drop 12 s.octets) more)

  pub headed_fields : (most : ℕ) (s : State) (fields : List Field) → 12 ≤ length s.octets
      → with_fields most (with_header s header) fields ≡ with_header (with_fields most s fields) header
  headed_fields most s fields late =
      let alike = fields_alike most (with_header s header) s fields refl (headed_length s late) in
      one_state (alike.one ∙ headed_more s alike.more late ∙ ap (λ o. header ++ drop 12 o) (sym alike.other))
      alike.names

  headed_count : (s after : State) → 12 ≤ length s.octets
      → count_put (with_header s header) (with_header after header) ≡ with_header (count_put s after) header
  headed_count s after late =
      let n = length s.octets + 2 in
      one_state (rw (headed_length s late, drop-append-drop 12 after.octets header n (omega (arith, late)) twelve)
      (headed_more s (part_of 2 (drop n after.octets)) late)) refl

  headed_counted : (most : ℕ) (s : State) (fields : List Field) → 12 ≤ length s.octets
      → with_counted most (with_header s header) fields ≡ with_header (with_counted most s fields) header
  headed_counted most s fields late =
      ap (count_put (with_header s header)) (headed_fields most s (Field.octets (0 ∷ 0 ∷ []) ∷ fields) late)
      ∙ headed_count s (with_fields most (with_octets s (0 ∷ 0 ∷ [])) fields) late

  headed_data : (most : ℕ) (s : State) (fields : Option (List Field)) → 12 ≤ length s.octets
      → with_data most (with_header s header) fields ≡ with_header (with_data most s fields) header
  headed_data most s None late = refl
  headed_data most s (Some fields) late = headed_counted most s fields late

  pub headed_entry : (most : ℕ) (s : State) (entry : Entry) → 12 ≤ length s.octets
      → with_entry most (with_header s header) entry ≡ with_header (with_entry most s entry) header
  headed_entry most s entry late =
      let then = with_fields most s entry.head in
      let longer = grown_length s.octets then.octets (fields_grow most s entry.head) in
      ap (λ s. with_data most s entry.data_fields) (headed_fields most s entry.head late)
      ∙ headed_data most then entry.data_fields (omega (arith, late, longer))

  pub headed_entries : (most : ℕ) (s : State) (entries : List Entry) → 12 ≤ length s.octets
      → with_entries most (with_header s header) entries ≡ with_header (with_entries most s entries) header
  headed_entries most s [] late = refl
  headed_entries most s (entry ∷ entries) late =
      let then = with_entry most s entry in
      let longer = grown_length s.octets then.octets (entry_grows most s entry) in
      ap (λ s. with_entries most s entries) (headed_entry most s entry late)
      ∙ headed_entries most then entries (omega (arith, late, longer))

-- entries after other entries
pub entries_more : (most : ℕ) (s : State) (entries others : List Entry)
    → with_entries most s (entries ++ others) ≡ with_entries most (with_entries most s entries) others
entries_more most s [] others = refl
entries_more most s (entry ∷ entries) others = entries_more most (with_entry most s entry) entries others

-- data that is composed after two octets, which then become its length
module _ (most : ℕ) (s : State) (fields : List Field) where
  from : State
  from = with_octets s (0 ∷ 0 ∷ [])

  pub counted_longer : length s.octets + 2 ≤ length (with_counted most s fields).octets
  unfolding from
  counted_longer =
      let less = grown_length from.octets (with_fields most from fields).octets (fields_grow most from fields) in
      omega (arith, counted_length most s fields, length-append s.octets (0 ∷ 0 ∷ []), less)

  pub count_is_put : (after : State) (place : ℕ) (octets : List ℕ) (names : Names)
      → after ≡ with_fields most (with_octets s (0 ∷ 0 ∷ [])) fields → place ≡ length s.octets + 2
      → octets ≡ take (place - 2) after.octets ++ (octets_be 2 (length after.octets - place) ++ drop place after.octets)
      → names ≡ after.names
      → ◌≡◌ {A = State} (record { octets = octets; names = names }) (with_counted most s fields)
  unfolding from
  count_is_put after place octets names after_is place_is is names_are =
      let end = length s.octets + 2 in
      let all = (with_fields most from fields).octets in
      let grows = grows_on s.octets from.octets all (0 ∷ 0 ∷ [], refl) (fields_grow most from fields) in
      let front : take (end - 2) all ≡ s.octets =
      let same : end - 2 ≡ length s.octets = omega arith in
      ap (λ n. take n all) same ∙ ap (take (length s.octets)) grows.1 ∙ take-append_seam s.octets grows.0 in
      one_state
      (is ∙ rw (after_is, place_is, front, ← length-drop end all)) (names_are ∙ ap (λ a. a.names) after_is)
