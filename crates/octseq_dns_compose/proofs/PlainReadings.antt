-- Data with no pointers: its octets are those of its plain form.
use Rattle.std.proofs.Common.{◌≡◌, ℕ, List, [], ◌∷◌, ◌++◌, length, refl, sym, ap, ◌∙◌, subst, arith}
use Rattle.std.proofs.Common.{append_assoc, append-nil}
use Rattle.std.proofs.lemmas.List.{nil_from_length}
use Rattle.std.specs.List.{flat_map}
use Rattle.octseq.proofs.Codes.{length_rest}
use Rattle.octseq.proofs.Windows.{next_and_rest}
use Rattle.octseq.proofs.WindowsAfter.{front_comes_next}
use Rattle.octseq.specs.Integer.{be, octets_be}
use Rattle.octseq.specs.Part.{part_length, part_of}
use Rattle.octseq.specs.Window.{Window, past, rest}
use Rattle.octseq_dns.specs.Rdata.{FitsRdata, bare_rdata}
use Rattle.octseq_dns_data.specs.Data.{HasOctetCount, IsTypedData, ParsedRdata}
use Rattle.octseq_dns_data.specs.Form.{FormPart, domain_name, number}
use Rattle.octseq_dns_data.specs.Formed.{IsFormed, IsString}
use Rattle.octseq_dns_data.specs.UncompressedName.{HasUncompressedName, IsUncompressedName}
use Rattle.octseq_dns_data.specs.Strings.{HasString}
use Rattle.octseq_dns_data.specs.Typed.{mx_parts, naptr_parts, quoted, soa_parts, srv_parts}
use Rattle.octseq_dns_name.specs.Name.{HasName, IsName, Name}
use Rattle.octseq_dns_name.specs.NameFormat.{NameFits, onward_name, wire_has_labels}
use Rattle.octseq_dns_name.specs.OneName.{one_name}
use Rattle.octseq_dns_name.specs.Wire.{wire}
use Rattle.octseq_dns_text.proofs.ShownData.{string_at}
use Rattle.octseq_dns_text.proofs.ShownForms.{a_plain_name, a_string, four_octets, shown_alone, two_octets}
use Rattle.octseq_dns_text.proofs.ShownForms.{◌shown_before◌}
use Rattle.octseq_dns_text.proofs.ShownTypes.{local_same}
use Rattle.octseq_dns_text.specs.DataShown.{rdata_octets}
use Rattle.octseq_format.specs.Canonical.{IsSoundWindow, many_next, sound_past}
use Rattle.octseq_format.specs.Counted.{onward_counted}
use Rattle.octseq_format.specs.Fixed.{canonical_fixed, onward_fixed}
use Rattle.octseq_format.specs.Integers.{are_be}
use Rattle.octseq_format.specs.Pair.{both_octets, both_say, ◌onward_then◌}
use Rattle.octseq_format.specs.Row.{Row}
use Rattle.octseq_dns_compose.specs.Alone.{ArePlain, IsPlain}

-- ---- data with no pointers has the octets of its plain form

-- a name that is read with no pointers
name_plain : (u v : Window) (name : Name) → HasName u name v → IsPlain name → HasUncompressedName u name v
name_plain u v name is (end, plain) =
    let labels = name.labels in
    let here : IsUncompressedName u labels end = subst (λ p. IsUncompressedName p labels end) is.0 plain in
    let read : IsName u labels end =
    record { pointers = 0; has_labels = here.has_labels; short = here.short; few = omega arith } in
    (is.0, subst (IsUncompressedName u labels) (one_name u end v labels labels read is.1).1 here)

-- what is read from a window takes these octets, up to the same end
abbrev Spans : Window → List ℕ → Window → Type 0
Spans w octets v = (rest w ≡ octets ++ rest v) × (v.end ≡ w.end)

-- up to the end of the window, they are all of it
span_all : (w v : Window) (octets : List ℕ) → v.position ≡ w.end → Spans w octets v → octets ≡ rest w
span_all w v octets ends (all, same) =
    let none = nil_from_length (rest v) (let few = length_rest v in omega (arith, few, same, ends)) in
    sym (all ∙ ap (λ t. octets ++ t) none ∙ append-nil octets)

octets_span : (n : ℕ) (w v : Window) (octets : List ℕ) → HasOctetCount n w octets v → Spans w octets v
octets_span n w v octets (few, is, moved) = (
  sym (next_and_rest w n few) ∙ ap (λ t. t ++ rest (past n w)) (sym is) ∙ ap (λ u. octets ++ rest u) (sym moved),
  ap (λ (x : Window). x.end) moved,
)

name_spans : (w v : Window) (name : Name) → IsSoundWindow w → HasName w name v → IsPlain name
    → Spans w (wire name.labels) v
name_spans w v name sound is plain = (
  a_plain_name.written refl w name v sound (name_plain w v name is plain),
  (onward_name.on w name v sound.ordered is).1,
)

string_spans : (w v : Window) (string : List ℕ) → IsSoundWindow w → HasString w string v → Spans w (part_of 1 string) v
string_spans w v string sound (has, is, moved) =
    let n = part_length 1 w in
    let u = past 1 w in
    let on = sound_past 1 w sound has.0 in
    let count = ((canonical_fixed (are_be 1)).written w n u sound (has.0, refl, refl)).1 in
    let after = (octets_span n u v string (has.1, is, moved)).0 in
    let long : n ≡ length string = sym (ap length is ∙ many_next n u on has.1) in (
      count ∙ ap (λ t. octets_be 1 n ++ t) after ∙ ap (λ k. octets_be 1 k ++ (string ++ rest v)) long
          ∙ sym (append_assoc (octets_be 1 (length string)) string (rest v)),
      ap (λ (x : Window). x.end) moved,
    )

strings_span : (w v : Window) (strings : List (List ℕ)) → IsSoundWindow w → Row HasString w strings v
    → Spans w (flat_map (part_of 1) strings) v
strings_span w v [] sound row = (ap rest (sym row), ap (λ (x : Window). x.end) row)
strings_span w v (string ∷ strings) sound (u, is, row) =
    let first = string_spans w u string sound is in
    let others = strings_span u v strings (string_at w u string sound is).2 row in (
      first.0 ∙ ap (λ t. part_of 1 string ++ t) others.0
          ∙ sym (append_assoc (part_of 1 string) (flat_map (part_of 1) strings) (rest v)),
      others.1 ∙ first.1,
    )

pub plain_octets_are : (rtype class : ℕ) (w : Window) (rdata : ParsedRdata) → IsSoundWindow w
    → IsTypedData rtype class w w rdata → ArePlain rdata → rdata_octets rdata ≡ rest w
plain_octets_are rtype class w (ParsedRdata.a octets) sound is plain =
    span_all w is.end octets is.ends (octets_span 4 w is.end octets is.rdata_is.2)
plain_octets_are rtype class w (ParsedRdata.aaaa octets) sound is plain =
    span_all w is.end octets is.ends (octets_span 16 w is.end octets is.rdata_is.2)
plain_octets_are rtype class w (ParsedRdata.ns name) sound is plain =
    span_all w is.end _ is.ends (name_spans w is.end name sound is.rdata_is.1 plain)
plain_octets_are rtype class w (ParsedRdata.cname name) sound is plain =
    span_all w is.end _ is.ends (name_spans w is.end name sound is.rdata_is.1 plain)
plain_octets_are rtype class w (ParsedRdata.ptr name) sound is plain =
    span_all w is.end _ is.ends (name_spans w is.end name sound is.rdata_is.1 plain)
plain_octets_are rtype class w (ParsedRdata.mx mx) sound is plain =
    let (same, (u, preference, name)) = is.rdata_is in
    let there = (two_octets shown_before shown_alone a_plain_name).written refl w (mx_parts mx) is.end sound
    (u, preference, name_plain u is.end mx.exchange name plain) in
    let on = (onward_fixed 2 be onward_then onward_name).on w (mx_parts mx) is.end sound.ordered is.rdata_is.1 in
    span_all w is.end _ is.ends (there, on.1)
plain_octets_are rtype class w (ParsedRdata.soa soa) sound is plain =
    let (same, (u, mname, (v, rname, numbers))) = is.rdata_is in
    let four = onward_fixed 4 be in
    let there = (a_plain_name shown_before a_plain_name shown_before four_octets shown_before four_octets
    shown_before four_octets shown_before four_octets shown_before shown_alone four_octets).written refl w
    (soa_parts soa) is.end sound
    (u, name_plain w u soa.mname mname plain.0, (v, name_plain u v soa.rname rname plain.1, numbers)) in
    let on = (onward_name onward_then onward_name onward_then four onward_then four onward_then four
    onward_then four onward_then four).on w (soa_parts soa) is.end sound.ordered is.rdata_is.1 in
    span_all w is.end _ is.ends (there, on.1)
plain_octets_are rtype class w (ParsedRdata.txt strings) sound is plain =
    span_all w is.end _ is.ends (strings_span w is.end strings sound is.rdata_is.1.1)
plain_octets_are rtype class w (ParsedRdata.srv srv) sound is plain =
    let (same, one, (a, priority, (b, weight, (c, port, name)))) = is.rdata_is in
    let two = onward_fixed 2 be in
    let there = (two_octets shown_before two_octets shown_before two_octets
    shown_before shown_alone a_plain_name).written refl w (srv_parts srv) is.end sound
    (a, priority, (b, weight, (c, port, name_plain c is.end srv.target name plain))) in
    let on = (two onward_then two onward_then two onward_then onward_name).on w (srv_parts srv) is.end sound.ordered
    is.rdata_is.2 in
    span_all w is.end _ is.ends (there, on.1)
plain_octets_are rtype class w (ParsedRdata.naptr naptr) sound is plain =
    let (same, one, (a, order, (b, preference, (c, flags, (d, services, (e, regexp, name)))))) = is.rdata_is in
    let two = onward_fixed 2 be in
    let string = onward_counted 1 0 (IsFormed IsString) in
    let there = (two_octets shown_before two_octets shown_before a_string shown_before a_string shown_before a_string
    shown_before shown_alone a_plain_name).written refl w (naptr_parts naptr) is.end sound (
      a,
      order,
      (
        b,
        preference,
        (c, flags, (d, services, (e, regexp, name_plain e is.end naptr.replacement name plain))),
      ),
    ) in
    let on = (two onward_then two onward_then string onward_then string onward_then string onward_then onward_name).on
    w (naptr_parts naptr) is.end sound.ordered is.rdata_is.2 in
    span_all w is.end _ is.ends (there, on.1)
plain_octets_are rtype class w (ParsedRdata.local k found) sound is plain = local_same k w found sound is.whole
plain_octets_are rtype class w (ParsedRdata.unknown other octets) sound is plain = absurd is.rdata_is

-- ---- data whose octets are those of its plain form has no pointers

-- the octets of a part come next, followed by others, and the part is read from there: the others are past it
part_read : (part : FormPart) (w u : Window) (found : part.Found) (more : List ℕ) → part.Fits (part.says found)
    → part.Is w found u → rest w ≡ part.octets (part.says found) ++ more → rest u ≡ more
part_read part w u found more fits is all =
    let octets = part.octets (part.says found) in
    let taken = part.next.next w (part.says found) more fits all in
    let same = (part.one.same w found taken.it u (past (length octets) w) is taken.is).1 in
    ap rest same ∙ (front_comes_next w octets more (length octets) all refl).2

first_is_plain : (u v : Window) (name : Name) (more : List ℕ) → NameFits name.labels → HasName u name v
    → rest u ≡ wire name.labels ++ more → IsPlain name
first_is_plain u v name more fits is all =
    let end = past (length (wire name.labels)) u in (
      end,
      subst (λ p. IsUncompressedName p name.labels end) (sym is.0)
          (record { has_labels = wire_has_labels u.position u name.labels more fits.each all; short = fits.short }),
    )

-- the last of the octets
last_is_plain : (u v : Window) (name : Name) → NameFits name.labels → HasName u name v → rest u ≡ wire name.labels
    → IsPlain name
last_is_plain u v name fits is all = first_is_plain u v name [] fits is (all ∙ sym (append-nil (wire name.labels)))

pub plain_of : (rtype class : ℕ) (w inside : Window) (rdata : ParsedRdata) → FitsRdata (bare_rdata rdata)
    → IsTypedData rtype class w inside rdata → rest w ≡ rdata_octets rdata → ArePlain rdata
unfolding both_octets both_say
plain_of rtype class w inside (ParsedRdata.ns name) fits is all = last_is_plain w is.end name fits is.rdata_is.1 all
plain_of rtype class w inside (ParsedRdata.cname name) fits is all = last_is_plain w is.end name fits is.rdata_is.1 all
plain_of rtype class w inside (ParsedRdata.ptr name) fits is all = last_is_plain w is.end name fits is.rdata_is.1 all
plain_of rtype class w inside (ParsedRdata.mx mx) fits is all =
    let (same, (u, preference, name)) = is.rdata_is in
    last_is_plain u is.end mx.exchange fits.1 name (part_read (number 2) w u mx.preference _ fits.0 preference all)
plain_of rtype class w inside (ParsedRdata.soa soa) fits is all =
    let (same, (u, mname, (v, rname, numbers))) = is.rdata_is in (
      first_is_plain w u soa.mname _ fits.0 mname all,
      first_is_plain u v soa.rname _ fits.1 rname (part_read domain_name w u soa.mname _ fits.0 mname all),
    )
plain_of rtype class w inside (ParsedRdata.srv srv) fits is all =
    let (same, one, (a, priority, (b, weight, (c, port, name)))) = is.rdata_is in
    let first = part_read (number 2) w a srv.priority _ fits.0 priority all in
    let second = part_read (number 2) a b srv.weight _ fits.1 weight first in
    last_is_plain c is.end srv.target fits.3 name (part_read (number 2) b c srv.port _ fits.2 port second)
plain_of rtype class w inside (ParsedRdata.naptr naptr) fits is all =
    let (same, one, (a, order, (b, preference, (c, flags, (d, services, (e, regexp, name)))))) = is.rdata_is in
    let fits_1 = fits.second in
    let fits_2 = fits_1.second in
    let fits_3 = fits_2.second in
    let fits_4 = fits_3.second in
    let first = part_read (number 2) w a naptr.order _ fits.first order all in
    let second = part_read (number 2) a b naptr.preference _ fits_1.first preference first in
    let third = part_read quoted b c naptr.flags _ fits_2.first flags second in
    let fourth = part_read quoted c d naptr.services _ fits_3.first services third in
    let fifth = part_read quoted d e naptr.regexp _ fits_4.first regexp fourth in
    last_is_plain e is.end naptr.replacement fits_4.second name fifth
plain_of rtype class w inside rdata fits is all = tt
