-- Data is read by itself from its octets with names in plain form, as in the message.
use Rattle.std.proofs.Common.{◌≡◌, ℕ, ◌≤◌, List, [], ◌∷◌, ◌++◌, length, inl, inr, refl, sym, ap}
use Rattle.std.proofs.Common.{◌∙◌, subst}
use Rattle.std.proofs.Common.{append_assoc, append-nil, arith}
use Rattle.std.specs.List.{AllByRecursion}
use Rattle.std.proofs.lemmas.List.Elements.{All-from_recursion}
use Rattle.octseq.proofs.Codes.{rest_whole}
use Rattle.octseq.proofs.WindowsAfter.{front_comes_next}
use Rattle.octseq.specs.Integer.{octets_be}
use Rattle.octseq.specs.Window.{Window, at, past, rest, whole}
use Rattle.octseq_dns.proofs.RdataRead.{data_is_read}
use Rattle.octseq_dns.specs.Rdata.{FitsRdata, IsOfType, Rdata, bare_rdata, rdata_fields}
use Rattle.octseq_dns.specs.ReadBack.{HasFields}
use Rattle.octseq_dns_compress.specs.Fields.{AreFields}
use Rattle.octseq_dns_compress.specs.Fits.{FitsField}
use Rattle.octseq_dns_compress.specs.State.{Field}
use Rattle.octseq_dns_data.specs.Data.{IsTypedData, ParsedRdata}
use Rattle.octseq_dns_data.specs.Local.{form}
use Rattle.octseq_dns_data.specs.Strings.{HasString}
use Rattle.octseq_dns_data.specs.Typed.{mx_parts, naptr_parts, soa_parts, srv_parts}
use Rattle.octseq_dns_message.specs.Entry as read
use Rattle.octseq_dns_message.specs.RecordData.{IsDataOf, IsDataTyped}
use Rattle.octseq_dns_name.specs.NameFormat.{wire_has_labels}
use Rattle.octseq_dns_name.specs.Wire.{wire}
use Rattle.octseq_dns_text.proofs.ShownData.{mx_shown, naptr_shown, soa_shown, srv_shown, string_at}
use Rattle.octseq_dns_text.proofs.ShownForms.{each_rest, name_fits}
use Rattle.octseq_dns_text.proofs.ShownTypes.{local_fits}
use Rattle.octseq_dns_text.specs.DataShown.{rdata_octets}
use Rattle.octseq_dns_compose.proofs.PlainReadings.{plain_octets_are, plain_of}
use Rattle.octseq_dns_compose.proofs.ShownRecords.{HasItsData}
use Rattle.octseq_dns_compose.specs.Alone.{IsTypedAlone, SaysAlone}
use Rattle.octseq_format.specs.Canonical.{IsSoundWindow, many_next}
use Rattle.octseq_format.specs.Pair.{both_octets, both_say, past_both}
use Rattle.octseq_format.specs.Row.{Row}

-- ---- fields

-- the octets of fields, with names in plain form
abbrev plain_octets : List Field → List ℕ
plain_octets [] = []
plain_octets (Field.name labels ∷ fields) = wire labels ++ plain_octets fields
plain_octets (Field.octets octets ∷ fields) = octets ++ plain_octets fields

fields_there : (w : Window) (fields : List Field) (more : List ℕ) → AllByRecursion FitsField fields
    → rest w ≡ plain_octets fields ++ more → AreFields w fields (past (length (plain_octets fields)) w)
fields_there w [] more fits is = ap (λ p. at p w) (omega arith)
fields_there w (Field.name labels ∷ fields) more fits is =
    let x = wire labels in
    let y = plain_octets fields in
    let apart : rest w ≡ x ++ (y ++ more) = is ∙ append_assoc x y more in
    let come = front_comes_next w x (y ++ more) (length x) apart refl in
    let u = past (length x) w in (
      u,
      record {
        pointers = 0;
        has_labels = wire_has_labels w.position w labels (y ++ more) fits.0.each apart;
        short = fits.0.short;
        few = omega arith;
      },
      subst (AreFields u fields) (past_both w x y) (fields_there u fields more fits.1 come.2),
    )
fields_there w (Field.octets x ∷ fields) more fits is =
    let y = plain_octets fields in
    let apart : rest w ≡ x ++ (y ++ more) = is ∙ append_assoc x y more in
    let come = front_comes_next w x (y ++ more) (length x) apart refl in
    let u = past (length x) w in
    (come.0, come.1, subst (AreFields u fields) (past_both w x y) (fields_there u fields more fits.1 come.2))

-- the fields of a record's data, if their octets are those of the data
has_fields : (r : read.Record) (fields : List Field) → HasItsData r → AllByRecursion FitsField fields
    → plain_octets fields ≡ rest r.rdata → HasFields r fields
has_fields r fields its fits same =
    let place = at r.rdata.position r.owner.place in
    let octets = plain_octets fields in record {
      in_message = its.in_message;
      end = past (length octets) place;
      fields_are = fields_there place fields its.more fits (its.there ∙ ap (λ t. t ++ its.more) (sym same));
      ends = let many = ap length same in let long = its.long in omega (arith, many, long);
    }

-- a record of data alone
abbrev own_record : ℕ → ℕ → List ℕ → read.Record
own_record rtype class octets = record {
  owner = record { place = whole octets; labels = [] };
  rtype = rtype;
  class = class;
  ttl = 0;
  rdata = whole octets;
}

own_data : (rtype class : ℕ) (octets : List ℕ) → HasItsData (own_record rtype class octets)
own_data rtype class octets = record {
  in_message = refl;
  more = [];
  there = sym (append-nil (rest (whole octets)));
  long = let many = ap length (rest_whole octets) in omega (arith, many);
}

-- ---- the fields of data

fields_fit : (said : Rdata) → FitsRdata said → AllByRecursion FitsField (rdata_fields said)
fields_fit (Rdata.ns labels) fits = (fits, tt)
fields_fit (Rdata.cname labels) fits = (fits, tt)
fields_fit (Rdata.ptr labels) fits = (fits, tt)
fields_fit (Rdata.mx preference labels) fits = (tt, (fits.1, tt))
fields_fit (Rdata.soa mname rname serial refresh retry expire minimum) fits = (fits.0, (fits.1, (tt, tt)))
fields_fit (Rdata.srv priority weight port labels) fits = (tt, (tt, tt))
fields_fit said fits = (tt, tt)

fields_plain : (rdata : ParsedRdata) → plain_octets (rdata_fields (bare_rdata rdata)) ≡ rdata_octets rdata
unfolding both_octets both_say
fields_plain (ParsedRdata.mx mx) =
    ap (λ t. octets_be 2 mx.preference ++ t) (append-nil (wire mx.exchange.labels))
fields_plain (ParsedRdata.soa soa) =
    ap (λ t. wire soa.mname.labels ++ (wire soa.rname.labels ++ t)) (append-nil _)
fields_plain (ParsedRdata.srv srv) =
    let a = octets_be 2 srv.priority in
    let b = octets_be 2 srv.weight in
    let c = octets_be 2 srv.port in
    let d = wire srv.target.labels in
    ap (λ t. (a ++ (b ++ c)) ++ t) (append-nil d) ∙ append_assoc a (b ++ c) d
    ∙ ap (λ t. a ++ t) (append_assoc b c d)
fields_plain rdata = append-nil _

-- ---- data that was read fits

strings_fit : (w v : Window) (strings : List (List ℕ)) → IsSoundWindow w → Row HasString w strings v
    → AllByRecursion (λ string. length string ≤ 255) strings
strings_fit w v [] sound row = tt
strings_fit w v (string ∷ strings) sound (u, is, row) =
    let at = string_at w u string sound is in
    (at.1, strings_fit u v strings at.2 row)

typed_fits : (rtype class : ℕ) (w inside : Window) (rdata : ParsedRdata) → IsSoundWindow w → IsSoundWindow inside
    → IsTypedData rtype class w inside rdata → FitsRdata (bare_rdata rdata)
unfolding both_say
typed_fits rtype class w inside (ParsedRdata.a octets) sound in_it is =
    let (same, one, (few, at, moved)) = is.rdata_is in ap length at ∙ many_next 4 w sound few
typed_fits rtype class w inside (ParsedRdata.aaaa octets) sound in_it is =
    let (same, one, (few, at, moved)) = is.rdata_is in ap length at ∙ many_next 16 w sound few
typed_fits rtype class w inside (ParsedRdata.ns name) sound in_it is =
    name_fits w name is.end sound is.rdata_is.1
typed_fits rtype class w inside (ParsedRdata.cname name) sound in_it is =
    name_fits w name is.end sound is.rdata_is.1
typed_fits rtype class w inside (ParsedRdata.ptr name) sound in_it is =
    name_fits w name is.end sound is.rdata_is.1
typed_fits rtype class w inside (ParsedRdata.mx mx) sound in_it is =
    let fits = mx_shown.fits w (mx_parts mx) is.end sound is.rdata_is.1 in
    (fits.first, fits.second)
typed_fits rtype class w inside (ParsedRdata.soa soa) sound in_it is =
    let fits = soa_shown.fits w (soa_parts soa) is.end sound is.rdata_is.1 in
    let numbers = fits.second.second in (
      fits.first,
      fits.second.first,
      numbers.first,
      numbers.second.first,
      numbers.second.second.first,
      numbers.second.second.second.first,
      numbers.second.second.second.second,
    )
typed_fits rtype class w inside (ParsedRdata.txt strings) sound in_it is =
    let (same, (some, row)) = is.rdata_is in
    (some, All-from_recursion (λ (s : List ℕ). length s ≤ 255) strings (strings_fit w is.end strings sound row))
typed_fits rtype class w inside (ParsedRdata.srv srv) sound in_it is =
    let fits = srv_shown.fits w (srv_parts srv) is.end sound is.rdata_is.2 in
    (fits.first, fits.second.first, fits.second.second.first, fits.second.second.second)
typed_fits rtype class w inside (ParsedRdata.naptr naptr) sound in_it is =
    naptr_shown.fits w (naptr_parts naptr) is.end sound is.rdata_is.2
typed_fits rtype class w inside (ParsedRdata.local k found) sound in_it is =
    ((form k).says found, local_fits k inside found _ in_it is.whole, refl)
typed_fits rtype class w inside (ParsedRdata.unknown other octets) sound in_it is = absurd is.rdata_is

-- and has its record's type
typed_of : (r : read.Record) (w inside : Window) (rdata : ParsedRdata) → IsTypedData r.rtype r.class w inside rdata
    → IsOfType r (bare_rdata rdata)
typed_of r w inside (ParsedRdata.a x) is = (is.rdata_is.0, is.rdata_is.1)
typed_of r w inside (ParsedRdata.aaaa x) is = (is.rdata_is.0, is.rdata_is.1)
typed_of r w inside (ParsedRdata.srv x) is = (is.rdata_is.0, is.rdata_is.1)
typed_of r w inside (ParsedRdata.naptr x) is = (is.rdata_is.0, is.rdata_is.1)
typed_of r w inside (ParsedRdata.local k found) is = (is.rtype_is, is.class_is)
typed_of r w inside (ParsedRdata.unknown other x) is = absurd is.rdata_is
typed_of r w inside rdata is = (is.rdata_is.0, tt)

-- data of a known type
abbrev IsKnown : Rdata → Type 0
IsKnown (Rdata.unknown rtype octets) = ⊥
IsKnown _ = Unit {0}

typed_known : (rtype class : ℕ) (w inside : Window) (rdata : ParsedRdata) → IsTypedData rtype class w inside rdata
    → IsKnown (bare_rdata rdata)
typed_known rtype class w inside (ParsedRdata.unknown other x) is = absurd is.rdata_is
typed_known rtype class w inside rdata is = tt

-- ---- data wherever it is

-- the data of a record has a form, with these values
abbrev IsTypedAs : read.Record → Rdata → Type 0
IsTypedAs r said = (parsed : ParsedRdata) × (bare_rdata parsed ≡ said) × IsDataTyped r parsed

is_typed : (r : read.Record) (parsed : ParsedRdata) → IsKnown (bare_rdata parsed) → IsDataOf r parsed
    → IsDataTyped r parsed
is_typed r parsed known (inl is) = is
is_typed r parsed known (inr (same, none)) = absurd (subst (λ p. IsKnown (bare_rdata p)) same known)

-- octets of data in plain form have its form wherever they are
form_there : (r : read.Record) (w inside : Window) (rdata : ParsedRdata) → HasItsData r → IsSoundWindow w
    → IsSoundWindow inside
    → IsTypedData r.rtype r.class w inside rdata → rdata_octets rdata ≡ rest r.rdata → IsTypedAs r (bare_rdata rdata)
form_there r w inside rdata its sound in_it is all =
    let said = bare_rdata rdata in
    let fits = typed_fits r.rtype r.class w inside rdata sound in_it is in
    let has = has_fields r (rdata_fields said) its (fields_fit said fits) (fields_plain rdata ∙ all) in
    let (parsed, same, says) = data_is_read r said has fits (typed_of r w inside rdata is) in
    let known = subst IsKnown (sym same) (typed_known r.rtype r.class w inside rdata is) in
    (parsed, same, is_typed r parsed known says)

-- ---- data alone

-- the octets of data say the same by themselves
abbrev IsReadAlone : ℕ → ℕ → ParsedRdata → Type 0
IsReadAlone rtype class rdata = (parsed : ParsedRdata) × (bare_rdata parsed ≡ bare_rdata rdata)
    × SaysAlone rtype class (rdata_octets rdata) parsed

typed_alone : (rtype class : ℕ) (w inside : Window) (rdata : ParsedRdata) → IsSoundWindow w → IsSoundWindow inside
    → IsTypedData rtype class w inside rdata → IsReadAlone rtype class rdata
typed_alone rtype class w inside rdata sound in_it is =
    let octets = rdata_octets rdata in
    let own = own_record rtype class octets in
    let fits = typed_fits rtype class w inside rdata sound in_it is in
    let (parsed, same, form) =
    form_there own w inside rdata (own_data rtype class octets) sound in_it is (sym (rest_whole octets)) in
    let said : octets ≡ rdata_octets parsed = sym (fields_plain rdata)
    ∙ ap (λ said. plain_octets (rdata_fields said)) (sym same) ∙ fields_plain parsed in
    let plain = plain_of rtype class (whole octets) (whole octets) parsed (subst FitsRdata (sym same) fits) form
    (rest_whole octets ∙ said) in
    (parsed, same, inl (form, plain))

-- if the octets of a record's data have a form by themselves, the data has it in the message too
none_alone : (r : read.Record) → HasItsData r → IsSoundWindow r.rdata → ((other : ParsedRdata) → ¬ IsDataTyped r other)
    → (other : ParsedRdata) → ¬ IsTypedAlone r.rtype r.class (rest r.rdata) other
none_alone r its in_it none other (form, plain) =
    let octets = rest r.rdata in
    let w = whole octets in
    let sound : IsSoundWindow w = record
    { each = each_rest r.rdata in_it; ordered = omega arith; within = omega arith } in
    let all = plain_octets_are r.rtype r.class w other sound form plain ∙ rest_whole octets in
    let (parsed, same, there) = form_there r w w other its sound sound form all in
    none parsed there

pub says_alone : (r : read.Record) (rdata : ParsedRdata) → HasItsData r
    → IsSoundWindow (at r.rdata.position r.owner.place)
    → IsSoundWindow r.rdata → IsDataOf r rdata → IsReadAlone r.rtype r.class rdata
says_alone r rdata its sound in_it (inl is) =
    typed_alone r.rtype r.class (at r.rdata.position r.owner.place) r.rdata rdata sound in_it is
says_alone r rdata its sound in_it (inr (same, none)) =
    let octets = rest r.rdata in
    subst (IsReadAlone r.rtype r.class) (sym same) (
      ParsedRdata.unknown r.rtype (whole octets),
      ap (Rdata.unknown r.rtype) (rest_whole octets),
      inr (refl, none_alone r its in_it none),
    )
