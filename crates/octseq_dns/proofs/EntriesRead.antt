-- Entries that were appended to a message are read: questions, records, and lists of them.
use Rattle.std.proofs.Common.{◌≡◌, ℕ, ◌+◌, ◌≤◌, ◌<◌, List, [], ◌∷◌, ◌++◌, length, map, drop, refl, sym, ap, ◌∙◌}
use Rattle.std.proofs.Common.{subst, arith, length-append, length-drop}
use Rattle.std.specs.List.{AllZip, AllByRecursion}
use Rattle.octseq.specs.Integer.{octets_be}
use Rattle.octseq.specs.Window.{Window, past, nested, at, whole}
use Rattle.octseq_dns_compress.specs.Fields.{AreFields}
use Rattle.octseq_dns_compress.specs.Fits.{FitsField}
use Rattle.octseq_dns_compress.specs.LabelsThere.{IsWellNamed}
use Rattle.octseq_dns_compress.specs.State.{State, Field, Entry, with_fields, with_counted, with_entry, with_entries}
use Rattle.octseq_dns_compress.proofs.FieldNames.{FitsEntry, data_octets, counted_is, counted_size}
use Rattle.octseq_dns_compress.proofs.FieldNames.{fields_named, entry_named}
use Rattle.octseq_dns_compress.proofs.Fields.{counted_grows, entries_grow}
use Rattle.octseq_dns_compress.proofs.FieldsRead.{fields_are_read}
use Rattle.octseq_dns_compress.proofs.LabelsThere.{all_of, all_grown}
use Rattle.octseq_dns_compress.proofs.Steps.{grown_length}
use Rattle.octseq_dns_message.specs.Entry as entry
use Rattle.octseq_dns_message.specs.Entry.{IsQuestion, IsRecord}
use Rattle.octseq_dns_data.specs.Format.{IsNumber}
use Rattle.octseq_format.specs.Laws.{Relation}
use Rattle.octseq_format.specs.Row.{Row}
use Rattle.octseq_dns.specs.Contents.{Question, Record, FitsQuestion, FitsRecord, question_entry, record_entry}
use Rattle.octseq_dns.specs.ReadBack.{bare, IsAsWritten}
use Rattle.octseq_dns.proofs.FieldParts.{name_first, number_first, number_last}

-- ---- in a window

question_at : (w v : Window) (q : Question) → FitsQuestion q → AreFields w (question_entry q).head v
    → (it : entry.Question) × IsQuestion w it v × (bare it ≡ q)
question_at w v q fits are =
    let name = name_first w v q.labels (Field.octets (octets_be 2 q.qtype ++ octets_be 2 q.qclass) ∷ []) are in
    let u = at name.0 w in
    let qtype = number_first 2 q.qtype (octets_be 2 q.qclass) u v [] fits.qtype name.2 in
    let qclass = number_last 2 q.qclass (past 2 u) v [] fits.qclass qtype.1 in (
      record { qname = record { place = w; labels = q.labels }; qtype = q.qtype; qclass = q.qclass },
      (u, name.1, (past 2 u, qtype.0, subst (IsNumber 2 (past 2 u) q.qclass) (sym qclass.1) qclass.0)),
      refl,
    )

-- the data of a record follows its length, and ends where this says
record_at : (w : Window) (p q n : ℕ) (r : Record) → FitsRecord r → n < 65536 → q ≡ p + 2 + n → q ≤ w.end
    → AreFields w (record_entry r).head (at p w) → AreFields (at p w) (Field.octets (octets_be 2 n) ∷ r.fields) (at q w)
    → (it : entry.Record) × IsRecord w it (at q w) × IsAsWritten it r
record_at w p q n r fits small end within head data_are =
    let times = octets_be 4 r.ttl in
    let kinds = octets_be 2 r.class ++ times in
    let name = name_first w (at p w) r.labels (Field.octets (octets_be 2 r.rtype ++ kinds) ∷ []) head in
    let u = at name.0 w in
    let rtype = number_first 2 r.rtype kinds u (at p w) [] fits.rtype name.2 in
    let class = number_first 2 r.class times (past 2 u) (at p w) [] fits.class rtype.1 in
    let third = past 2 (past 2 u) in
    let ttl = number_last 4 r.ttl third (at p w) [] fits.ttl class.1 in
    let count = number_last 2 n (at p w) (at q w) r.fields small data_are in
    let value = count.0.1 in
    let room = count.0.0 in
    let rdata = nested n (at (p + 2) w) in (
      record {
        owner = record { place = w; labels = r.labels };
        rtype = r.rtype;
        class = r.class;
        ttl = r.ttl;
        rdata = rdata;
      },
      (
        u,
        name.1,
        (
          past 2 u,
          rtype.0,
          (
            third,
            class.0,
            (
              at p w,
              subst (IsNumber 4 third r.ttl) (sym ttl.1) ttl.0,
              (
                (room, omega (arith, value, end, within)),
                ap (λ n. nested n (at (p + 2) w)) value,
                ap (λ x. at x w) (end ∙ ap (λ n. p + 2 + n) value),
              ),
            ),
          ),
        ),
      ),
      record {
        labels = refl;
        rtype = refl;
        class = refl;
        ttl = refl;
        data_is = record { in_message = refl; end = at q w; fields_are = count.1; ends = end };
      },
    )

-- ---- in a message

-- octets aren't longer than they are with another header and followed by more
all_length : (header octets after : List ℕ) → length header ≡ 12 → length octets ≤ length (all_of header octets after)
all_length header octets after twelve =
    let outer = length-append header (drop 12 octets ++ after) in
    let inner = length-append (drop 12 octets) after in
    let left = length-drop 12 octets in
    omega (arith, outer, inner, left, twelve)

-- fields are read in the octets of a message with them
fields_read_in : (most : ℕ) (s : State) (fields : List Field) → IsWellNamed s → AllByRecursion FitsField fields
    → (header after all octets : List ℕ) → length header ≡ 12 → (with_fields most s fields).octets ≡ octets
    → all_of header octets after ≡ all
    → AreFields (at (length s.octets) (whole all)) fields (at (length octets) (whole all))
fields_read_in most s fields named fit header after all octets twelve same is =
    subst (λ all. AreFields (at (length s.octets) (whole all)) fields (at (length octets) (whole all))) is
    (subst (λ octets. AreFields (at (length s.octets) (whole (all_of header octets after))) fields
    (at (length octets) (whole (all_of header octets after)))) same
    (fields_are_read most s fields named fit header after twelve))

-- Each value that fits is read if its entry follows a message.
pub record IsRead {A B : Type 0} (Is : Relation A) (IsAs : A → B → Type 0) (to_entry : B → Entry)
    (FitsOne : B → Type 0) : Type 0 where
  pub fits : (b : B) → FitsOne b → FitsEntry (to_entry b)
  pub read : (most : ℕ) (s : State) (b : B) → FitsOne b → IsWellNamed s → (header after : List ℕ) → length header ≡ 12
      → length (with_entry most s (to_entry b)).octets ≤ 65535
      → let octets = (with_entry most s (to_entry b)).octets in
      let all = whole (all_of header octets after) in
      (a : A) × Is (at (length s.octets) all) a (at (length octets) all) × IsAs a b

pub question_is_read : IsRead IsQuestion (λ it q. bare it ≡ q) question_entry FitsQuestion
question_is_read = record {
  fits = λ q fits. record { head = (fits.name, (tt, tt)); data_fit = tt };
  read = λ most s q fits named header after twelve few.
      let head = (question_entry q).head in
      let octets = (with_fields most s head).octets in
      let all = whole (all_of header octets after) in
      question_at (at (length s.octets) all) (at (length octets) all) q fits
      (fields_are_read most s head named (fits.name, (tt, tt)) header after twelve);
}

record_read : (most : ℕ) (s : State) (r : Record) → FitsRecord r → IsWellNamed s → (header after : List ℕ)
    → length header ≡ 12 → length (with_entry most s (record_entry r)).octets ≤ 65535
    → let octets = (with_entry most s (record_entry r)).octets in
    let all = whole (all_of header octets after) in
    (it : entry.Record) × IsRecord (at (length s.octets) all) it (at (length octets) all) × IsAsWritten it r
record_read most s r fits named header after twelve few =
    let head = (record_entry r).head in
    let then = with_fields most s head in
    let then_named = fields_named most s head named (fits.name, (tt, tt)) in
    let octets = (with_counted most then r.fields).octets in
    let all = all_of header octets after in
    let n = length (data_octets most then r.fields) in
    let grows = counted_grows most then r.fields in
    let size = counted_size most then r.fields in
    let within = all_length header octets after twelve in
    let same = all_grown header then.octets octets after grows then_named.headed in
    let head_is =
    fields_read_in most s head named (fits.name, (tt, tt)) header (grows.0 ++ after) all then.octets twelve refl same in
    let count = Field.octets (octets_be 2 n) in
    let counted = ap (λ (s : State). s.octets) (sym (counted_is most then r.fields)) in
    let data_are = fields_read_in most then (count ∷ r.fields) then_named (tt, fits.fields) header after all octets
    twelve counted refl in
    let w = at (length s.octets) (whole all) in
    record_at w (length then.octets) (length octets) n r fits (omega (arith, size, few)) (omega (arith, size)) within
    head_is data_are

pub record_is_read : IsRead IsRecord IsAsWritten record_entry FitsRecord
record_is_read = record {
  fits = λ r fits. record { head = (fits.name, (tt, tt)); data_fit = fits.fields };
  read = record_read;
}

-- ---- lists of entries

-- A list is read as another: as many values, each as the other's.
pub record AreRead {A B : Type 0} (Is : Relation A) (IsAs : A → B → Type 0) (w : Window) (row : List B) (v : Window)
    : Type 0 where
  pub them : List A
  pub many : length them ≡ length row
  pub are : Row Is w them v
  pub as_said : AllZip IsAs them row

module _ {A B : Type 0} {Is : Relation A} {IsAs : A → B → Type 0} {to_entry : B → Entry} {FitsOne : B → Type 0}
    (reads : IsRead Is IsAs to_entry FitsOne) where
  pub rows_named : (most : ℕ) (s : State) (row : List B) → AllByRecursion FitsOne row → IsWellNamed s
      → IsWellNamed (with_entries most s (map to_entry row))
  rows_named most s [] fit named = named
  rows_named most s (b ∷ row) fit named =
      rows_named most (with_entry most s (to_entry b)) row fit.1
      (entry_named most s (to_entry b) named (reads.fits b fit.0))

  pub rows_are_read : (most : ℕ) (s : State) (row : List B) → AllByRecursion FitsOne row → IsWellNamed s
      → (header after : List ℕ) → length header ≡ 12 → length (with_entries most s (map to_entry row)).octets ≤ 65535
      → let octets = (with_entries most s (map to_entry row)).octets in
      let all = whole (all_of header octets after) in
      AreRead Is IsAs (at (length s.octets) all) row (at (length octets) all)
  rows_are_read most s [] fit named header after twelve few =
      record { them = []; many = refl; are = refl; as_said = tt }
  rows_are_read most s (b ∷ row) fit named header after twelve few =
      let then = with_entry most s (to_entry b) in
      let then_named = entry_named most s (to_entry b) named (reads.fits b fit.0) in
      let octets = (with_entries most then (map to_entry row)).octets in
      let grows = entries_grow most then (map to_entry row) in
      let less = grown_length then.octets octets grows in
      let same = all_grown header then.octets octets after grows then_named.headed in
      let one = subst (λ all. (a : A) × Is (at (length s.octets) (whole all)) a (at (length then.octets) (whole all))
      × IsAs a b) same
      (reads.read most s b fit.0 named header (grows.0 ++ after) twelve (omega (arith, less, few))) in
      let more = rows_are_read most then row fit.1 then_named header after twelve few in
      let many = more.many in
      record {
        them = one.0 ∷ more.them;
        many = omega (arith, many);
        are = (at (length then.octets) (whole (all_of header octets after)), one.1, more.are);
        as_said = (one.2, more.as_said);
      }
