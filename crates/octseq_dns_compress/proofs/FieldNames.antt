-- Names stay at their places as fields and entries are appended. Data after its length is fields too: the length is one
-- of them.
use Rattle.std.proofs.Common.{◌≡◌, ℕ, ◌+◌, Option, Some, None, IfSome, List, [], ◌∷◌, ◌++◌, length, drop, refl, sym, ap}
use Rattle.std.proofs.Common.{◌∙◌, subst, arith, append_assoc, length-append, drop_at}
use Rattle.std.specs.List.{AllByRecursion}
use Rattle.octseq.specs.Integer.{octets_be}
use Rattle.octseq.specs.Part.{part_of}
use Rattle.octseq.proofs.Written.{length_be}
use Rattle.octseq_dns_compress.proofs.Words.{FitsField, AreNamed, IsWellNamed, State, Field, Entry, with_octets}
use Rattle.octseq_dns_compress.proofs.Words.{with_field, with_fields, with_counted, with_data, with_entry}
use Rattle.octseq_dns_compress.proofs.Fields.{field_grows, fields_alike, one_state}
use Rattle.octseq_dns_compress.proofs.Steps.{grown_length}
use Rattle.octseq_dns_compress.proofs.LabelsThere.{named_grows, named_with}

-- ---- fields

pub field_named : (most : ℕ) (s : State) (field : Field) → IsWellNamed s → FitsField field
    → IsWellNamed (with_field most s field)
field_named most s field sound fits = record {
  headed = let longer = grown_length s.octets (with_field most s field).octets (field_grows most s field) in
      omega (arith, sound.headed, longer);
  named = named field fits;
} where
  named : (field : Field) → FitsField field → AreNamed (with_field most s field).octets (with_field most s field).names
  named (Field.name labels) fits = named_with most s.octets s.names labels sound.headed sound.named fits
  named (Field.octets more) fits = named_grows s.octets more s.names sound.headed sound.named

pub fields_named : (most : ℕ) (s : State) (fields : List Field) → IsWellNamed s → AllByRecursion FitsField fields
    → IsWellNamed (with_fields most s fields)
fields_named most s [] sound fit = sound
fields_named most s (field ∷ fields) sound fit =
    fields_named most (with_field most s field) fields (field_named most s field sound fit.0) fit.1

-- ---- data after its length

-- the octets of data
abbrev pub data_octets : ℕ → State → List Field → List ℕ
data_octets most s fields =
    drop (length s.octets + 2) (with_fields most (with_octets s (0 ∷ 0 ∷ [])) fields).octets

-- data with its length is fields, the first of which is the length
pub counted_is : (most : ℕ) (s : State) (fields : List Field)
    → with_counted most s fields
    ≡ with_fields most (with_octets s (octets_be 2 (length (data_octets most s fields)))) fields
counted_is most s fields =
    let from = with_octets s (0 ∷ 0 ∷ []) in
    let count = octets_be 2 (length (data_octets most s fields)) in
    let one = length-append s.octets (0 ∷ 0 ∷ []) in
    let two = length-append s.octets count in
    let wide = length_be 2 (length (data_octets most s fields)) in
    let alike = fields_alike most from (with_octets s count) fields refl (omega (arith, one, two, wide)) in
    let data_is = ap (drop (length s.octets + 2)) alike.one
    ∙ drop_at from.octets alike.more (length s.octets + 2) one in
    one_state
    (ap (λ d. s.octets ++ (count ++ d)) data_is ∙ sym (append_assoc s.octets count alike.more) ∙ sym alike.other)
    alike.names

-- its number of octets
pub counted_size : (most : ℕ) (s : State) (fields : List Field)
    → length (with_counted most s fields).octets ≡ length s.octets + (2 + length (data_octets most s fields))
counted_size most s fields =
    let data_are = data_octets most s fields in
    let outer = length-append s.octets (part_of 2 data_are) in
    omega (arith, outer, length-append (octets_be 2 (length data_are)) data_are, length_be 2 (length data_are))

-- ---- entries

-- its fields and its data fit
pub record FitsEntry (entry : Entry) : Type 0 where
  pub head : AllByRecursion FitsField entry.head
  pub data_fit : IfSome entry.data_fields (AllByRecursion FitsField)

data_named : (most : ℕ) (s : State) (fields : Option (List Field)) → IsWellNamed s
    → IfSome fields (AllByRecursion FitsField) → IsWellNamed (with_data most s fields)
data_named most s None sound fit = sound
data_named most s (Some fields) sound fit =
    let count : List ℕ = octets_be 2 (length (data_octets most s fields)) in
    subst IsWellNamed (sym (counted_is most s fields))
    (fields_named most s (Field.octets count ∷ fields) sound (tt, fit))

pub entry_named : (most : ℕ) (s : State) (entry : Entry) → IsWellNamed s → FitsEntry entry
    → IsWellNamed (with_entry most s entry)
entry_named most s entry sound fit =
    data_named most (with_fields most s entry.head) entry.data_fields (fields_named most s entry.head sound fit.head)
    fit.data_fit
