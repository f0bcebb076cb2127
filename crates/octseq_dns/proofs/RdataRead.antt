-- Data that was written is read as that data.
use Rattle.std.proofs.Common.{◌≡◌, ℕ, ◌+◌, ◌≤◌, List, [], ◌∷◌, ◌++◌, length, inl, inr, refl, sym, ap, ◌∙◌}
use Rattle.std.proofs.Common.{subst, arith}
use Rattle.std.proofs.lemmas.List.Elements.{All-head, All-tail}
use Rattle.std.specs.List.{All, flat_map}
use Rattle.octseq.specs.Integer.{octets_be}
use Rattle.octseq.specs.Part.{part_of}
use Rattle.octseq.specs.Window.{Window, left, next, rest, past, at}
use Rattle.octseq_dns_compress.specs.Fields.{AreFields}
use Rattle.octseq_dns_compress.specs.Fits.{NameFits}
use Rattle.octseq_dns_compress.specs.State.{Field}
use Rattle.octseq_dns_data.specs.Data.{ParsedRdata, HasRdata, HasOctetCount, HasString, HasSoa}
use Rattle.octseq_dns_message.specs.RecordData.{IsDataOf}
use Rattle.octseq_dns_data.specs.Data.{naptr_form}
use Rattle.octseq_dns_data.specs.Data.{rtype_of as parsed_rtype}
use Rattle.octseq_dns_data.specs.Local.{IsOfClass, form}
use Rattle.octseq_dns_data.proofs.Rdata.{in_message, naptr_from}
use Rattle.octseq_dns_message.specs.Entry.{Record}
use Rattle.octseq_dns_data.specs.Format.{IsNumber}
use Rattle.octseq_dns_name.specs.Name.{Name, HasName, IsName}
use Rattle.octseq_dns_name.specs.NameFormat.{wire_has_labels}
use Rattle.octseq_dns_name.specs.Wire.{wire}
use Rattle.octseq_format.specs.Row.{Row}
use Rattle.octseq_dns.specs.Rdata.{Rdata, bare_rdata, rdata_fields, rtype_of, FitsRdata, IsOfType}
use Rattle.octseq_dns.specs.ReadBack.{HasFields}
use Rattle.octseq_dns.proofs.FieldParts.{octets_first, octets_apart, number_first, number_last, name_first}

-- ---- fields

-- this many octets
octets_last : (n : ℕ) (octets : List ℕ) (w v : Window) → length octets ≡ n → AreFields w (Field.octets octets ∷ []) v
    → HasOctetCount n w octets v
octets_last n octets w v many are = subst (λ n. HasOctetCount n w octets v) many (are.0, sym are.1, are.2)

-- the name at a place
abbrev named : Window → List (List ℕ) → Name
named w labels = record { place = w; labels = labels }

name_last : (labels : List (List ℕ)) (w v : Window) → AreFields w (Field.name labels ∷ []) v
    → HasName w (named w labels) v
name_last labels w v are = (refl, subst (IsName w labels) (sym are.2) are.1)

-- a name that isn't compressed
plain_last : (labels : List (List ℕ)) (w v : Window) → NameFits labels → AreFields w (Field.octets (wire labels) ∷ []) v
    → HasName w (named w labels) v
plain_last labels w v fits are =
    let u = past (length (wire labels)) w in
    let all = octets_first w (wire labels) are.0 are.1 in (
      refl,
      subst (IsName w labels) (sym are.2) (record {
        pointers = 0;
        has_labels = wire_has_labels w.position w labels (rest u) fits.each all;
        short = fits.short;
        few = omega arith;
      }),
    )

-- strings, one after another
strings_last : (strings : List (List ℕ)) (w v : Window) → All (λ string. length string ≤ 255) strings
    → AreFields w (Field.octets (flat_map (part_of 1) strings) ∷ []) v → Row HasString w strings v
strings_last [] w v short are = are.2 ∙ ap (λ p. at p w) (omega arith)
strings_last (string ∷ strings) w v short are =
    let parts = flat_map (part_of 1) strings in
    let first = octets_apart w v (part_of 1 string) parts [] are in
    let fits = All-head (λ (s : List ℕ). length s ≤ 255) string strings short in
    let count = number_first 1 (length string) string w v (Field.octets parts ∷ []) (omega (arith, fits)) first in
    let start = past 1 w in
    let u = past (length string) start in
    let there = subst (λ n. (n ≤ left start) × (string ≡ next n start) × (u ≡ past n start)) count.0.1
    (count.1.0, sym count.1.1, refl) in (
      u,
      ((count.0.0, there.0), there.1, there.2),
      strings_last strings u v (All-tail (λ (s : List ℕ). length s ≤ 255) string strings short) count.1.2,
    )

soa_last : (mname rname : List (List ℕ)) (serial refresh retry expire minimum : ℕ) (w v : Window)
    → FitsRdata (Rdata.soa mname rname serial refresh retry expire minimum)
    → AreFields w (rdata_fields (Rdata.soa mname rname serial refresh retry expire minimum)) v
    → (second : Window) × HasSoa w (record {
      mname = named w mname;
      rname = named second rname;
      serial = serial;
      refresh = refresh;
      retry = retry;
      expire = expire;
      minimum = minimum;
    }) v
soa_last mname rname serial refresh retry expire minimum w v fits are =
    let o4 = octets_be 4 minimum in
    let o3 = octets_be 4 expire ++ o4 in
    let o2 = octets_be 4 retry ++ o3 in
    let o1 = octets_be 4 refresh ++ o2 in
    let numbers = Field.octets (octets_be 4 serial ++ o1) in
    let first = name_first w v mname (Field.name rname ∷ numbers ∷ []) are in
    let second = at first.0 w in
    let other = name_first second v rname (numbers ∷ []) first.2 in
    let n0 = at other.0 w in
    let n1 = past 4 n0 in
    let n2 = past 4 n1 in
    let n3 = past 4 n2 in
    let n4 = past 4 n3 in
    let one = number_first 4 serial o1 n0 v [] fits.2 other.2 in
    let two = number_first 4 refresh o2 n1 v [] fits.3 one.1 in
    let three = number_first 4 retry o3 n2 v [] fits.4 two.1 in
    let four = number_first 4 expire o4 n3 v [] fits.5 three.1 in
    let five = number_last 4 minimum n4 v [] fits.6 four.1 in
    let last = subst (IsNumber 4 n4 minimum) (sym five.1) five.0 in
    (second, (second, first.1, (n0, other.1, (n1, one.0, (n2, two.0, (n3, three.0, (n4, four.0, last)))))))

-- ---- data

-- it is read as data with the same values
abbrev pub IsReadAs : Record → Rdata → Type 0
IsReadAs r said = (parsed : ParsedRdata) × (bare_rdata parsed ≡ said) × IsDataOf r parsed

-- data of a known type is read
typed : (r : Record) (said : Rdata) (has : HasFields r (rdata_fields said)) (parsed : ParsedRdata)
    → bare_rdata parsed ≡ said → HasRdata r.rtype r.class (at r.rdata.position r.owner.place) parsed has.end
    → IsReadAs r said
typed r said has parsed same is = (
  parsed,
  same,
  inl (in_message r.rtype r.class (at r.rdata.position r.owner.place) r.rdata parsed
      (record { end = has.end; rdata_is = is; ends = has.ends })),
)

-- octets that fill the data are the data
pub octets_whole : (r : Record) (octets : List ℕ) → HasFields r (Field.octets octets ∷ [])
    → (rest r.rdata ≡ octets) × (r.rdata.position + length octets ≡ r.rdata.end)
octets_whole r octets has =
    let is = has.fields_are in
    let place = r.rdata.position in
    let ends : place + length octets ≡ r.rdata.end = sym (ap (λ (v : Window). v.position) is.2) ∙ has.ends in (
      ap (λ all. rest (record { octets = all; position = place; end = r.rdata.end })) has.in_message
          ∙ ap (λ end. rest (record { octets = r.owner.place.octets; position = place; end = end })) (sym ends)
          ∙ is.1,
      ends,
    )

-- data that fills its window is read by itself
local_read : (r : Record) (k : ℕ) (octets : List ℕ) → HasFields r (Field.octets octets ∷ [])
    → FitsRdata (Rdata.local k octets) → r.rtype ≡ k → IsOfClass k r.class
    → IsReadAs r (Rdata.local k octets)
local_read r k octets has fits rtype class =
    let whole = octets_whole r octets has in
    let said = fits.0 in
    let o = (form k).octets said in
    let ends = whole.1 in
    let many : length octets ≡ length o = ap length fits.2 in
    let taken = (form k).back.back r.rdata said fits.1 (whole.0 ∙ fits.2) (omega (arith, ends, many)) in (
      ParsedRdata.local k taken.it,
      ap (Rdata.local k) (ap (form k).octets taken.tells ∙ sym fits.2),
      inl (record {
        rtype_is = rtype;
        class_is = class;
        whole = subst (λ n. (form k).Is r.rdata taken.it (past n r.rdata)) (omega (arith, ends, many)) taken.is;
      }),
    )

-- NAPTR data
naptr_read : (r : Record) (said : naptr_form.Said) → HasFields r (Field.octets (naptr_form.octets said) ∷ [])
    → naptr_form.Fits said → r.rtype ≡ 35 → r.class ≡ 1 → IsReadAs r (Rdata.naptr said)
naptr_read r said has fits rtype class =
    let w = at r.rdata.position r.owner.place in
    let o = naptr_form.octets said in
    let are = has.fields_are in
    let taken = naptr_form.next.next w said (rest (past (length o) w)) fits (octets_first w o are.0 are.1) in
    typed r (Rdata.naptr said) has (ParsedRdata.naptr (naptr_from taken.it)) (ap Rdata.naptr taken.tells)
    (rtype, class, subst (λ v. naptr_form.Is w taken.it v) (sym are.2) taken.is)

-- Data that was written is read as that data, if its record has the type and the class of the data.
pub data_is_read : (r : Record) (said : Rdata) → HasFields r (rdata_fields said) → FitsRdata said → IsOfType r said
    → IsReadAs r said
data_is_read r (Rdata.a address) has fits of =
    let w = at r.rdata.position r.owner.place in
    typed r (Rdata.a address) has (ParsedRdata.a address) refl
    (of.0, of.1, octets_last 4 address w has.end fits has.fields_are)
data_is_read r (Rdata.aaaa address) has fits of =
    let w = at r.rdata.position r.owner.place in
    typed r (Rdata.aaaa address) has (ParsedRdata.aaaa address) refl
    (of.0, of.1, octets_last 16 address w has.end fits has.fields_are)
data_is_read r (Rdata.ns labels) has fits of =
    let w = at r.rdata.position r.owner.place in
    typed r (Rdata.ns labels) has (ParsedRdata.ns (named w labels)) refl
    (of.0, name_last labels w has.end has.fields_are)
data_is_read r (Rdata.cname labels) has fits of =
    let w = at r.rdata.position r.owner.place in
    typed r (Rdata.cname labels) has (ParsedRdata.cname (named w labels)) refl
    (of.0, name_last labels w has.end has.fields_are)
data_is_read r (Rdata.ptr labels) has fits of =
    let w = at r.rdata.position r.owner.place in
    typed r (Rdata.ptr labels) has (ParsedRdata.ptr (named w labels)) refl
    (of.0, name_last labels w has.end has.fields_are)
data_is_read r (Rdata.mx preference labels) has fits of =
    let w = at r.rdata.position r.owner.place in
    let number = number_last 2 preference w has.end (Field.name labels ∷ []) fits.0 has.fields_are in
    let u = past 2 w in
    typed r (Rdata.mx preference labels) has
    (ParsedRdata.mx (record { preference = preference; exchange = named u labels })) refl
    (of.0, (u, number.0, name_last labels u has.end number.1))
data_is_read r (Rdata.soa mname rname serial refresh retry expire minimum) has fits of =
    let w = at r.rdata.position r.owner.place in
    let soa = soa_last mname rname serial refresh retry expire minimum w has.end fits has.fields_are in
    typed r (Rdata.soa mname rname serial refresh retry expire minimum) has
    (ParsedRdata.soa (record {
      mname = named w mname;
      rname = named soa.0 rname;
      serial = serial;
      refresh = refresh;
      retry = retry;
      expire = expire;
      minimum = minimum;
    })) refl (of.0, soa.1)
data_is_read r (Rdata.txt strings) has fits of =
    let w = at r.rdata.position r.owner.place in
    typed r (Rdata.txt strings) has (ParsedRdata.txt strings) refl
    (of.0, (fits.0, strings_last strings w has.end fits.1 has.fields_are))
data_is_read r (Rdata.srv priority weight port labels) has fits of =
    let w = at r.rdata.position r.owner.place in
    let o2 = octets_be 2 port in
    let o1 = octets_be 2 weight ++ o2 in
    let name : List Field = Field.octets (wire labels) ∷ [] in
    let u1 = past 2 w in
    let u2 = past 2 u1 in
    let u3 = past 2 u2 in
    let one = number_first 2 priority o1 w has.end name fits.0 has.fields_are in
    let two = number_first 2 weight o2 u1 has.end name fits.1 one.1 in
    let three = number_last 2 port u2 has.end name fits.2 two.1 in
    typed r (Rdata.srv priority weight port labels) has
    (ParsedRdata.srv (record { priority = priority; weight = weight; port = port; target = named u3 labels })) refl
    (of.0, of.1, (u1, one.0, (u2, two.0, (u3, three.0, plain_last labels u3 has.end fits.3 three.1))))
data_is_read r (Rdata.naptr said) has fits of = naptr_read r said has fits of.0 of.1
data_is_read r (Rdata.local k octets) has fits of = local_read r k octets has fits of.0 of.1
data_is_read r (Rdata.unknown rtype octets) has fits of = (
  ParsedRdata.unknown r.rtype r.rdata,
  ap (λ n. Rdata.unknown n (rest r.rdata)) of.0 ∙ ap (Rdata.unknown rtype) (octets_whole r octets has).0,
  inr (refl, of.1),
)

-- data is of the type that it was read as
pub bare_rtype : (parsed : ParsedRdata) → rtype_of (bare_rdata parsed) ≡ parsed_rtype parsed
bare_rtype (ParsedRdata.a _) = refl
bare_rtype (ParsedRdata.aaaa _) = refl
bare_rtype (ParsedRdata.ns _) = refl
bare_rtype (ParsedRdata.cname _) = refl
bare_rtype (ParsedRdata.ptr _) = refl
bare_rtype (ParsedRdata.mx _) = refl
bare_rtype (ParsedRdata.soa _) = refl
bare_rtype (ParsedRdata.txt _) = refl
bare_rtype (ParsedRdata.srv _) = refl
bare_rtype (ParsedRdata.naptr _) = refl
bare_rtype (ParsedRdata.local _ _) = refl
bare_rtype (ParsedRdata.unknown _ _) = refl
