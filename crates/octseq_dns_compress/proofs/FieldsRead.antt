-- Fields that were appended to a message are read, whatever its header says and whatever follows it.
use Rattle.std.proofs.Common.{◌≡◌, ℕ, ◌+◌, ◌≤◌, List, [], ◌∷◌, ◌++◌, length, refl, ap, ◌∙◌, subst, arith, length-append}
use Rattle.std.proofs.Math.Seq.{drop-append_seam}
use Rattle.std.specs.List.{AllByRecursion}
use Rattle.octseq.specs.Window.{Window, left, next, at, whole}
use Rattle.octseq.proofs.WindowsAfter.{front_comes_next}
use Rattle.octseq_dns_compress.proofs.Words.{AreFields, FitsField, name_octets, IsWellNamed, State, Field, with_field}
use Rattle.octseq_dns_compress.proofs.Words.{with_fields}
use Rattle.octseq_dns_compress.proofs.FieldNames.{field_named}
use Rattle.octseq_dns_compress.proofs.Fields.{fields_grow}
use Rattle.octseq_dns_compress.proofs.LabelsThere.{all_of, all_grown, rest_at, name_is_read}

-- octets that were appended to a message come next
octets_are_read : (octets more header after : List ℕ) → 12 ≤ length octets → length header ≡ 12
    → let w = at (length octets) (whole (all_of header (octets ++ more) after)) in
    (length more ≤ left w) × (next (length more) w ≡ more)
octets_are_read octets more header after headed long =
    let w = at (length octets) (whole (all_of header (octets ++ more) after)) in
    let come = front_comes_next w more after (length more)
    (rest_at header (octets ++ more) after (length octets) long headed (omega (arith, length-append octets more))
    ∙ ap (λ front. front ++ after) (drop-append_seam octets more)) refl in
    (come.0, come.1)

-- a field is read, followed by others
field_is_read : (most : ℕ) (s : State) (field : Field) → IsWellNamed s → FitsField field
    → (header after : List ℕ) → length header ≡ 12 → (fields : List Field) (v : Window)
    → let octets = (with_field most s field).octets in
    let all = whole (all_of header octets after) in
    AreFields (at (length octets) all) fields v → AreFields (at (length s.octets) all) (field ∷ fields) v
field_is_read most s (Field.name labels) sound fits header after long fields v are =
    let octets = s.octets ++ name_octets s.names labels in
    let all = whole (all_of header octets after) in (
      at (length s.octets + length (name_octets s.names labels)) all,
      name_is_read s.octets s.names labels sound.headed sound.named fits header after long,
      subst (λ p. AreFields (at p all) fields v) (length-append s.octets (name_octets s.names labels)) are,
    )
field_is_read most s (Field.octets more) sound fits header after long fields v are =
    let all = whole (all_of header (s.octets ++ more) after) in
    let read = octets_are_read s.octets more header after sound.headed long in
    (read.0, read.1, subst (λ p. AreFields (at p all) fields v) (length-append s.octets more) are)

-- all fields are read
pub fields_are_read : (most : ℕ) (s : State) (fields : List Field) → IsWellNamed s → AllByRecursion FitsField fields
    → (header after : List ℕ) → length header ≡ 12
    → let octets = (with_fields most s fields).octets in
    let all = whole (all_of header octets after) in
    AreFields (at (length s.octets) all) fields (at (length octets) all)
fields_are_read most s [] sound fit header after long = refl
fields_are_read most s (field ∷ fields) sound fit header after long =
    let then = with_field most s field in
    let then_named = field_named most s field sound fit.0 in
    let octets = (with_fields most then fields).octets in
    let grows = fields_grow most then fields in
    let same = all_grown header then.octets octets after grows then_named.headed in
    rw (← same) (field_is_read most s field sound fit.0 header (grows.0 ++ after) long fields
    (at (length octets) (whole (all_of header then.octets (grows.0 ++ after))))
    (rw same (fields_are_read most then fields then_named fit.1 header after long)))
