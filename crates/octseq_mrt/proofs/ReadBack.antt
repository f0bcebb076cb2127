-- Records that were written are read back.
use Rattle.std.proofs.Common.{◌≡◌, ℕ, ◌<◌, ◌^◌, Bool, true, false, List, [], ◌∷◌, ◌++◌, length, map, refl, sym}
use Rattle.std.proofs.Common.{ap, ◌∙◌, subst, arith, append_assoc}
use Rattle.std.proofs.lemmas.List.{map-id}
use Rattle.std.specs.List.{AllByRecursion}
use Rattle.std.specs.Prelude.{is_some, if◌then◌else◌}
use mathlib.Core.Logic.{inl}
use Rattle.octseq.specs.Integer.{octets_be}
use Rattle.octseq.proofs.Codes.{rest_whole}
use Rattle.octseq.proofs.WindowsAfter.{front_comes_next}
use Rattle.octseq.specs.Window.{Window, rest, past, whole, nested}
use Rattle.octseq_format.specs.Laws.{IsDelimited, back_of}
use Rattle.octseq_format.specs.Pair.{◌then◌, ◌delimited_then◌, ◌back_then◌, both_say, both_octets, same_pair}
use Rattle.octseq_bgp.specs.Parts.{IsNumber}
use Rattle.octseq_bgp.specs.ReadWritten.{attribute_says, delimited_attribute}
use Rattle.octseq_bgp.specs.Written.{attributes_octets}
use Rattle.octseq_bgp.specs.Family.{afi_of}
use Rattle.octseq_bgp.specs.Prefix.{most_bits}
use Rattle.octseq_bgp.specs.Path.{asn_size}
use Rattle.octseq_bgp.specs.declared.family.Afi.{Afi}
use Rattle.octseq_bgp.specs.declared.family.Afi.TheVariants as addresses
use Rattle.octseq_bgp.specs.declared.family.AfiSafiType.{AfiSafiType}
use Rattle.octseq_bgp.specs.declared.family.AfiSafiType.TheVariants as family
use Rattle.octseq_bgp.proofs.WholesBack.{HasAll, whole_back, fills_back, extent, extent_of, extent_octets, IsExtent}
use Rattle.octseq_bgp.proofs.WholesBack.{extent_back, has_extent}
use Rattle.octseq_mrt.specs.Address.{IsFamily, family_number}
use Rattle.octseq_mrt.specs.Bgp4Mp.{Bgp4Mp, Event, IsEvent, IsBgp4MpFront, IsBgp4Mp, message_session}
use Rattle.octseq_mrt.specs.Header.{IsHeader, IsNext}
use Rattle.octseq_mrt.specs.Kind.{kind_type, kind_subtype, has_wide_asns}
use Rattle.octseq_mrt.specs.OneListed.{entry_from}
use Rattle.octseq_mrt.specs.ReadBack.{IsReadAs, SaysTable, SaysRib, SaysBgp4Mp, AreAttributes, said_entry, said_event}
use Rattle.octseq_mrt.specs.ReadBack.{bgp4mp_kind}
use Rattle.octseq_mrt.specs.Record.{Value, AreRecord, HasForm}
use Rattle.octseq_mrt.specs.Rib.{IsRibEntry}
use Rattle.octseq_mrt.specs.Written.{record_octets, PeerTable, FitsPeerTable, peer_table_octets, FitsRoute}
use Rattle.octseq_mrt.specs.Written.{Routes, FitsRib, rib_octets, route_octets, FitsEvent, event_octets, FitsBgp4Mp}
use Rattle.octseq_mrt.specs.Written.{bgp4mp_octets, family_of}
use Rattle.octseq_mrt.specs.WrittenBack.{fit, delimited_deciding, delimited_number, delimited_part, delimited_address}
use Rattle.octseq_mrt.specs.WrittenBack.{delimited_optional, written_table_of, table_read_back, route_of}
use Rattle.octseq_mrt.specs.WrittenBack.{routes_read_back}
use Rattle.octseq_mrt.specs.declared.header.CommonHeader.{CommonHeader}
use Rattle.octseq_mrt.specs.declared.kind.Bgp4MpSubtype.{Bgp4MpSubtype}
use Rattle.octseq_mrt.specs.declared.kind.Bgp4MpSubtype.TheVariants as subtype
use Rattle.octseq_mrt.specs.declared.kind.RecordKind.{RecordKind}
use Rattle.octseq_mrt.specs.declared.kind.RecordKind.TheVariants as kind
use Rattle.octseq_mrt.proofs.OneRecord.{header_parts, header_from, table_from, rib_from, front_parts, bgp4mp_from}

-- ---- the header

delimited_next : (k : ℕ) → IsDelimited (IsNext k) extent extent_octets (λ e. IsExtent e × (e.0 ≡ k))
delimited_next k = record {
  next = λ w e more fits is.
      let here = fits.0.0 in
      let none = fits.0.1 in
      let many = fits.1 in
      let long : length e.1.1 ≡ k = omega (arith, here, many) in
      let at = front_comes_next w e.1.1 more k is long in
      let all : extent (nested k w) ≡ e = same_pair (omega (arith, many)) (same_pair (omega (arith, none)) at.1) in
      record { it = nested k w; tells = all; is = (at.0, refl, ap (λ n. past n w) long) };
}

abbrev header_octets : CommonHeader → List ℕ
header_octets h =
    octets_be 4 h.timestamp ++ (octets_be 2 h.type_code ++ (octets_be 2 h.subtype ++ octets_be 4 h.length))

delimited_header : IsDelimited IsHeader (λ h. h) header_octets (λ h. (h.timestamp < 256 ^ 4) × (h.type_code < 256 ^ 2)
    × (h.subtype < 256 ^ 2) × (h.length < 256 ^ 4))
unfolding both_say both_octets
delimited_header = record {
  next = λ w h more fits is.
      let all = delimited_number 4 delimited_then delimited_number 2 delimited_then delimited_number 2
      delimited_then delimited_number 4 in
      let taken = all.next w (header_parts h) more (fit fits.0 (fit fits.1 (fit fits.2 fits.3))) is in
      record { it = header_from taken.it; tells = ap header_from taken.tells; is = taken.is };
}

small_kind : (k : RecordKind) → (kind_type k < 256 ^ 2) × (kind_subtype k < 256 ^ 2)
small_kind (kind.Rib family.Ipv4Unicast true) = (omega arith, omega arith)
small_kind (kind.Rib _ false) = (omega arith, omega arith)
small_kind (kind.Bgp4Mp subtype.Message) = (omega arith, omega arith)
small_kind (kind.Bgp4MpEt subtype.Message) = (omega arith, omega arith)
small_kind _ = (omega arith, omega arith)

-- a header and a body are a record, whose value is that of the body
read_as : (time : ℕ) (k : RecordKind) (body : List ℕ) (Says : Value → Type 0) → time < 2 ^ 32 → length body < 2 ^ 32
    → ((w : Window) → HasAll w body → (v : Value) × HasForm k w v × Says v)
    → IsReadAs time k Says (record_octets time (kind_type k) (kind_subtype k) body)
read_as time k body Says small few value =
    let h = header_from (time, (kind_type k, (kind_subtype k, length body))) in
    let o = record_octets time (kind_type k) (kind_subtype k) body in
    let fits = small_kind k in
    let same : o ≡ header_octets h ++ body = simp append_assoc in
    let found = whole_back (back_of (delimited_deciding delimited_header (λ h. delimited_next h.length))) (whole o)
    (h, extent_of body) ((small, fits.0, fits.1, few), ((refl, refl), refl))
    (record { are = rest_whole o ∙ same; end = omega (arith, ap length same) }) in
    let w = found.0.1 in
    let are = subst (λ h. AreRecord o (h, w)) (ap (λ r. r.0) found.1) found.2 in
    let v = value w (has_extent w body (ap (λ r. r.1) found.1)) in
    record {
      header = h;
      body = w;
      value = v.0;
      are = are;
      timestamp = refl;
      type_code = refl;
      subtype = refl;
      is = inl (k, refl, refl, v.1);
      says = v.2;
    }

-- ---- tables

pub tables : (time : ℕ) (t : PeerTable) → time < 2 ^ 32 → FitsPeerTable t → length (peer_table_octets t) < 2 ^ 32
    → IsReadAs time kind.PeerIndexTable (SaysTable t) (record_octets time 13 1 (peer_table_octets t))
tables time t small fits few =
    read_as time kind.PeerIndexTable (peer_table_octets t) (SaysTable t) small few (λ w all.
    let found = whole_back table_read_back w t fits all in
    let it = found.0 in
    let says = ap (λ peers. written_table_of (it.0, (rest it.1.0, peers))) (sym (map-id it.1.1)) ∙ found.1 in
    (Value.peer_index_table (table_from it), (table_from it, refl, found.2), says))

-- ---- RIBs

-- an entry, and its attributes
delimited_entry : (paths : Bool) → IsDelimited (IsRibEntry paths) said_entry route_octets
    (λ e. FitsRoute paths e × AreAttributes e.attributes)
unfolding both_say both_octets
delimited_entry paths = record {
  next = λ w e more fits is.
      let parts = delimited_number 2 delimited_then delimited_number 4 delimited_then delimited_optional paths
      delimited_then delimited_part 2 extent_back in
      let taken = parts.next w (e.peer_index, (e.originated_time, (e.path_id, extent_of e.attributes))) more
      (fit fits.0.peer_index (fit fits.0.originated_time (fit fits.0.path_id ((refl, refl), fits.0.attributes)))) is in
      let octets = taken.it.1.1.1 in
      let row = fits.1 in
      let all = has_extent octets e.attributes (ap (λ s. s.1.1.1) taken.tells) in
      let filled = fills_back delimited_attribute octets row.0 row.1 (subst (HasAll octets) row.2 all) in
      let row_octets = attributes_octets (map attribute_says filled.0) in
      let same = ap (λ s. route_of (s.0, (s.1.0, (s.1.1.0, row_octets)))) taken.tells
      ∙ ap (λ o. route_of (e.peer_index, (e.originated_time, (e.path_id, o))))
      (ap attributes_octets filled.1 ∙ sym row.2) in
      let it = entry_from taken.it filled.0 in
      let entry : IsRibEntry paths w it (past (length (route_octets e)) w) =
      record { octets = octets; parts = taken.is; attributes = filled.2 } in
      record { it = it; tells = same; is = entry };
}

both_fit : {A : Type 0} (P Q : A → Type 0) (row : List A) → AllByRecursion P row → AllByRecursion Q row
    → AllByRecursion (λ a. P a × Q a) row
both_fit P Q [] p q = tt
both_fit P Q (x ∷ row) p q = ((p.0, q.0), both_fit P Q row p.1 q.1)

pub ribs : (time : ℕ) (f : AfiSafiType) (paths : Bool) (r : Routes) → time < 2 ^ 32
    → FitsRib (most_bits (afi_of f)) (FitsRoute paths) r → AllByRecursion (λ e. AreAttributes e.attributes) r.entries
    → length (rib_octets r) < 2 ^ 32 → IsReadAs time (kind.Rib f paths) (SaysRib r)
    (record_octets time 13 (kind_subtype (kind.Rib f paths)) (rib_octets r))
ribs time f paths r small fits are few = read_as time (kind.Rib f paths) (rib_octets r) (SaysRib r) small few (λ w all.
    let found = whole_back (routes_read_back (delimited_entry paths) (most_bits (afi_of f))) w r
    (record {
      sequence = fits.sequence;
      bits = fits.bits;
      within = fits.within;
      prefix = fits.prefix;
      entries = both_fit (FitsRoute paths) (λ e. AreAttributes e.attributes) r.entries fits.entries are;
      count = fits.count;
    }) all in
    let rib = rib_from f found.0 in
    (Value.rib rib, (rib, refl, (refl, found.2)), found.1))

-- ---- BGP4MP

small_family : (afi : Afi) → family_number afi < 256 ^ 2
small_family addresses.Ipv4 = omega arith
small_family addresses.Ipv6 = omega arith

delimited_family : IsDelimited IsFamily (λ afi. afi) (λ afi. octets_be 2 (family_number afi)) (λ _. Unit {0})
delimited_family = record {
  next = λ w afi more fits is.
      let taken = (delimited_number 2).next w (family_number afi) more (small_family afi) is in
      let end = past (length (octets_be 2 (family_number afi))) w in
      let there = subst (λ n. IsNumber 2 w n end) taken.tells taken.is in
      record { it = afi; tells = refl; is = there };
}

-- an event that fills a window
event_back : (s : Bgp4MpSubtype) (w : Window) (event : Event) → FitsEvent s event → HasAll w (event_octets event)
    → (found : Event) × IsEvent s w found × (said_event s found ≡ said_event s event)
unfolding both_say both_octets
event_back s w (Event.state_change states) fits all =
    let found = whole_back (back_of (delimited_number 2 delimited_then delimited_number 2)) w states
    (fit fits.1 fits.2) all in
    (Event.state_change found.0, (fits.0, found.2), ap Event.state_change found.1)
event_back s w (Event.message session octets) fits all =
    let same = ap (λ o. Event.message (message_session s) (whole o)) all.are in
    (Event.message (message_session s) w, (fits, refl, refl), same)

form_of : (s : Bgp4MpSubtype) (has : Bool) (w : Window) (b : Bgp4Mp) → IsBgp4Mp has s w b
    → HasForm (if has then kind.Bgp4MpEt s else kind.Bgp4Mp s) w (Value.bgp4mp b)
form_of s true w b is = (b, refl, is)
form_of s false w b is = (b, refl, is)

pub events : (time : ℕ) (s : Bgp4MpSubtype) (b : Bgp4Mp) → time < 2 ^ 32 → FitsBgp4Mp s b
    → length (bgp4mp_octets s b) < 2 ^ 32 → IsReadAs time (bgp4mp_kind s b) (SaysBgp4Mp s b)
    (record_octets time (kind_type (bgp4mp_kind s b)) (kind_subtype (bgp4mp_kind s b)) (bgp4mp_octets s b))
unfolding both_say both_octets
events time s b small fits few =
    read_as time (bgp4mp_kind s b) (bgp4mp_octets s b) (SaysBgp4Mp s b) small few (λ w all.
    let has = is_some b.microseconds in
    let asn = delimited_number (asn_size (has_wide_asns s)) in
    let peers = delimited_deciding delimited_family (λ f. delimited_address f delimited_then delimited_address f) in
    let front = delimited_optional has delimited_then asn delimited_then asn delimited_then delimited_number 2
    delimited_then peers in
    let parts = front_parts b (family_of b.peer_addr) in
    let found = whole_back (front back_then extent_back) w (parts, extent_of (event_octets b.event))
    (fit (fit fits.microseconds (fit fits.peer_asn (fit fits.local_asn (fit fits.interface
    (tt, fit fits.peer_addr fits.local_addr))))) (refl, refl)) (subst (HasAll w) (simp append_assoc) all) in
    let p = found.0.0 in
    let o = found.0.1 in
    let is = found.2.1 in
    let event = event_back s o b.event fits.event (has_extent o (event_octets b.event) (ap (λ r. r.1) found.1)) in
    let there = subst (λ u. IsBgp4MpFront has (has_wide_asns s) w p u) (sym is.2.0) is.1 in
    let it = bgp4mp_from p event.0 in
    let body : IsBgp4Mp has s w it = record { afi = p.1.1.1.1.0; rest = o; front = there; event = event.1 } in
    let says = ap (λ r. bgp4mp_from r.0 (said_event s event.0)) found.1 ∙ ap (bgp4mp_from parts) event.2 in
    (Value.bgp4mp it, form_of s has w it body, says))
