-- What was written is read back: the lists of records. So the octets of a table or a RIB say one thing.
use Rattle.std.specs.Prelude.{◌≡◌, ℕ, ◌*◌, ◌/◌, ◌%◌, ◌+◌, ◌<◌, ◌≤◌, ◌^◌, Bool, Option, Some, None}
use Rattle.std.specs.Prelude.{List, [], ◌∷◌, ◌++◌, length, map, refl, slice_index}
use Rattle.std.proofs.Common.{sym, ap, ◌∙◌, subst, suc, arith, append_assoc}
use Rattle.std.specs.Net.Addr.{segments_of, octets_of}
use Rattle.octseq.specs.Integer.{octets_be}
use Rattle.octseq.specs.Part.{part_of}
use Rattle.octseq.specs.Window.{Window, rest, past, at}
use Rattle.octseq.proofs.WindowsAfter.{front_comes_next}
use Rattle.octseq_format.specs.Counted.{Counted, Times, delimited_counted, one_times}
use Rattle.octseq_format.specs.Family.{delimited_sized, delimited_when, many_read_back}
use Rattle.octseq_format.specs.Fixed.{IsFixed, delimited_fixed}
use Rattle.octseq_format.specs.Integers.{are_be}
use Rattle.octseq_format.specs.Laws.{Relation, TakesOctets, IsOne, IsReadBack, IsDelimited}
use Rattle.octseq_format.specs.Optional.{optional_octets}
use Rattle.octseq_format.specs.Pair.{◌then◌, ◌also◌, ◌delimited_then◌, ◌back_then◌, ◌one_then◌, both_say, both_octets}
use Rattle.octseq_format.specs.Rest.{rest_read_back}
use Rattle.octseq_format.specs.Tagged.{tagged_read_back}
use Rattle.octseq_format.proofs.Wholes.{whole_taken, content_taken}
use Rattle.octseq_bgp.specs.Parts.{IsNumber, IsCounted, IsPrefix, octets_of_bits, ◌deciding◌}
use Rattle.octseq_bgp.specs.OneParts.{one_number, one_octets, one_prefix}
use Rattle.octseq_bgp.specs.Path.{asn_size}
use Rattle.octseq_bgp.specs.declared.family.Afi.{Afi}
use Rattle.octseq_bgp.specs.declared.family.Afi.TheVariants as addresses
use Rattle.octseq_bgp.proofs.WholesBack.{counted_is}
use Rattle.octseq_mrt.specs.Address.{Address, IsAddress, IsNumberIf}
use Rattle.octseq_mrt.specs.OneListed.{peer_parts, peer_from, one_peer}
use Rattle.octseq_mrt.specs.Peer.{Peer, IsPeer, IsTable, peer_family, has_wide_asn}
use Rattle.octseq_mrt.specs.Rib.{HasEntryParts}
use Rattle.octseq_mrt.specs.Written.{address_octets, FitsFamily, FitsOptional, peer_octets, FitsPeer, PeerTable}
use Rattle.octseq_mrt.specs.Written.{peer_table_octets, FitsPeerTable, Route, route_octets, FitsRoute, Routes}
use Rattle.octseq_mrt.specs.Written.{rib_octets, FitsRib}

-- a table, by its parts
abbrev pub written_table_of : ℕ × (List ℕ × List Peer) → PeerTable
written_table_of s = record { collector_bgp_id = s.0; view_name = s.1.0; peers = s.1.1 }

-- what a table says
abbrev pub table_said : ℕ × (Window × List Peer) → PeerTable
table_said t = written_table_of (t.0, (rest t.1.0, map (λ p. p) t.1.1))

-- ---- RIBs

-- an entry, by its parts
abbrev pub route_of : ℕ × (ℕ × (Option ℕ × List ℕ)) → Route
route_of s = record { peer_index = s.0; originated_time = s.1.0; path_id = s.1.1.0; attributes = s.1.1.1 }

abbrev routes_of : ℕ × ((ℕ × List ℕ) × List Route) → Routes
routes_of s = record { sequence = s.0; bits = s.1.0.0; prefix = s.1.0.1; entries = s.1.1 }

-- ---- lemmas: proved below this line, so what the words mean is read above it

-- ---- of any formats

-- octets say one thing
pub one_said : {A S : Type 0} {Is : Relation A} {says : A → S} {octets : S → List ℕ} {Fits : S → Type 0} → IsOne Is
    → IsReadBack Is says octets Fits → (s t : S) → Fits s → Fits t → octets s ≡ octets t → s ≡ t
one_said {says = says} {octets = octets} one back s t fits others same =
    let x = whole_taken back s fits in
    let y = content_taken back t others (octets s) same in
    sym x.tells ∙ ap says (one.same _ x.it y.it _ _ x.is y.is).0 ∙ y.tells

-- what is said by other words, whose octets are put together in another way
pub back_from : {A S T : Type 0} {Is : Relation A} {says : A → S} {octets : S → List ℕ} {Fits : S → Type 0}
    {written : T → List ℕ} {Suits : T → Type 0} (to : T → S) (from : S → T) → ((t : T) → from (to t) ≡ t)
    → ((t : T) → Suits t → Fits (to t)) → ((t : T) → written t ≡ octets (to t)) → IsReadBack Is says octets Fits
    → IsReadBack Is (λ a. from (says a)) written Suits
back_from {Is = Is} to from again suits same back = record {
  back = λ w t fits is all.
      let long = ap length (same t) in
      let taken = back.back w (to t) (suits t fits) (is ∙ same t) (omega (arith, all, long)) in
      let moved = subst (λ n. Is w taken.it (past n w)) (sym long) taken.is in
      record { it = taken.it; tells = ap from taken.tells ∙ again t; is = moved };
}

-- both fit
pub fit : {A B : Type 0} {First : A → Type 0} {Second : B → Type 0} {both : A × B} → First both.0 → Second both.1
    → (First also Second) both
fit one two = record { first = one; second = two }

-- a value, and another whose form it decides
pub delimited_deciding : {A B T : Type 0} {First : Relation A} {Second : A → Relation B} {tells : B → T}
    {first : A → List ℕ} {second : A → T → List ℕ} {Fits : A → Type 0} {Also : A → T → Type 0}
    → IsDelimited First (λ a. a) first Fits → ((a : A) → IsDelimited (Second a) tells (second a) (Also a))
    → IsDelimited {S = A × T} (First deciding Second) (λ both. (both.0, tells both.1))
    (λ said. first said.0 ++ second said.0 said.1) (λ said. Fits said.0 × Also said.0 said.1)
unfolding both_say both_octets
delimited_deciding {Second = Second} {first = first} {second = second} one two = record {
  next = λ w said more fits is.
      let taken = (one delimited_then two said.0).next w said more (fit fits.0 fits.1) is in
      let u = taken.is.0 in
      let end = past (length (first said.0 ++ second said.0 said.1)) w in
      let moved = subst (λ a. Second a u taken.it.1 end) (sym (ap (λ s. s.0) taken.tells)) taken.is.2 in
      record { it = taken.it; tells = taken.tells; is = (u, taken.is.1, moved) };
}

-- ---- numbers, octets after their length, addresses
pub delimited_number : (k : ℕ) → IsDelimited (IsNumber k) (λ n. n) (octets_be k) (λ n. n < 256 ^ k)
delimited_number k = delimited_fixed (are_be k)

-- what is read back, after the number of its octets
pub delimited_part : {A S : Type 0} {Is : Relation A} {says : A → S} {octets : S → List ℕ} {Fits : S → Type 0} (k : ℕ)
    → IsReadBack Is says octets Fits → IsDelimited (Counted k 0 Is) says (λ s. part_of k (octets s))
    (λ s. Fits s × (length (octets s) < 256 ^ k))
delimited_part {Is = Is} {says = says} {octets = octets} k back = record {
  next = λ w s more fits is.
      let few = fits.1 in
      let same = counted_is k octets s in
      subst (λ o. TakesOctets (Counted k 0 Is) says w s (length o)) same
      ((delimited_counted {k = k} {extra = 0} back).next w s more
      (record { tag_fits = omega (arith, few); inside = record { inside = fits.0; many = refl } })
      (is ∙ ap (λ o. o ++ more) (sym same)));
}

pub delimited_octets : (k : ℕ) → IsDelimited (IsCounted k) rest (part_of k)
    (λ octets. Unit {0} × (length octets < 256 ^ k))
delimited_octets k = delimited_part k rest_read_back

segments_again : (segments : List ℕ) → ((k : ℕ) → slice_index segments k < 2 ^ 16)
    → segments_of (octets_of segments) ≡ segments
segments_again [] small = refl
segments_again (s ∷ segments) small =
    let whole : s / 256 * 256 + s % 256 ≡ s = omega arith in
    ap (λ n. n ∷ segments_of (octets_of segments)) whole
    ∙ ap (λ more. s ∷ more) (segments_again segments (λ k. small (suc k)))

octets_long : (segments : List ℕ) → length (octets_of segments) ≡ 2 * length segments
octets_long [] = refl
octets_long (s ∷ segments) = omega (arith, octets_long segments)

-- the octets of an address are as many as its family says, and are read as it
fixed_next : {A : Type 0} (reading : List ℕ → A) (w : Window) (a : A) (octets more : List ℕ) (k : ℕ) → length octets ≡ k
    → reading octets ≡ a → rest w ≡ octets ++ more → TakesOctets (IsFixed k reading) (λ a. a) w a (length octets)
fixed_next reading w a octets more k long back is =
    let come = front_comes_next w octets more k is long in
    record { it = a; tells = refl; is = (come.0, sym back ∙ ap reading (sym come.1), ap (λ n. past n w) long) }

pub delimited_address : (afi : Afi) → IsDelimited (IsAddress afi) (λ a. a) address_octets (FitsFamily afi)
delimited_address afi = record { next = next afi } where
  next : (afi : Afi) (w : Window) (a : Address) (more : List ℕ) → FitsFamily afi a → rest w ≡ address_octets a ++ more
      → TakesOctets (IsAddress afi) (λ a. a) w a (length (address_octets a))
  next addresses.Ipv4 w (Address.ipv4 octets) more fits is = fixed_next Address.ipv4 w _ octets more 4 fits refl is
  next addresses.Ipv6 w (Address.ipv6 segments) more fits is =
      let many = fits.0 in
      fixed_next (λ octets. Address.ipv6 (segments_of octets)) w (Address.ipv6 segments) (octets_of segments) more 16
      (omega (arith, octets_long segments, many)) (ap Address.ipv6 (segments_again segments fits.1)) is
  next addresses.Ipv4 w (Address.ipv6 segments) more fits is = absurd fits
  next addresses.Ipv6 w (Address.ipv4 octets) more fits is = absurd fits

pub delimited_optional : (has : Bool)
    → IsDelimited (IsNumberIf has) (λ n. n) (optional_octets (octets_be 4)) (FitsOptional has)
delimited_optional has = record { next = next } where
  next : (w : Window) (n : Option ℕ) (more : List ℕ) → FitsOptional has n
      → rest w ≡ optional_octets (octets_be 4) n ++ more
      → TakesOctets (IsNumberIf has) (λ n. n) w n (length (optional_octets (octets_be 4) n))
  next w None more fits is = record { it = None; tells = refl; is = (fits, ap (λ p. at p w) (omega arith)) }
  next w (Some n) more fits is =
      let taken = (delimited_number 4).next w n more fits.1 is in
      record { it = Some taken.it; tells = ap Some taken.tells; is = (fits.0, taken.is) }

-- ---- peer index tables
delimited_peer : IsDelimited IsPeer (λ p. p) peer_octets FitsPeer
unfolding both_say both_octets
delimited_peer = record {
  next = λ w p more fits is.
      let all = delimited_deciding (delimited_number 1) (λ (kind : ℕ). delimited_number 4
      delimited_then delimited_address (peer_family kind)
      delimited_then delimited_number (asn_size (has_wide_asn kind))) in
      let taken = all.next w (peer_parts p) more (fits.peer_type, fit fits.bgp_id (fit fits.addr fits.asn)) is in
      record { it = peer_from taken.it; tells = ap peer_from taken.tells; is = taken.is };
}

pub table_read_back : IsReadBack IsTable table_said peer_table_octets FitsPeerTable
unfolding both_say both_octets
table_read_back = back_from (λ (t : PeerTable). (t.collector_bgp_id, (t.view_name, t.peers))) written_table_of
    (λ _. refl)
    (λ t fits. fit fits.collector_bgp_id (fit (tt, fits.view_name)
    (record { tag_fits = fits.count; inside = record { each = fits.peers; many = refl } })))
    (λ t. append_assoc (octets_be 4 t.collector_bgp_id) (part_of 2 t.view_name) _)
    (delimited_number 4 back_then delimited_octets 2 back_then tagged_read_back {tag = length} (delimited_number 2)
    (many_read_back delimited_peer))

-- whose attributes haven't been read
pub delimited_route : (paths : Bool) → IsDelimited (HasEntryParts paths)
    (λ e. route_of (e.0, (e.1.0, (e.1.1.0, rest e.1.1.1)))) route_octets (FitsRoute paths)
unfolding both_say both_octets
delimited_route paths = record {
  next = λ w e more fits is.
      let all = delimited_number 2 delimited_then delimited_number 4 delimited_then delimited_optional paths
      delimited_then delimited_octets 2 in
      let taken = all.next w (e.peer_index, (e.originated_time, (e.path_id, e.attributes))) more
      (fit fits.peer_index (fit fits.originated_time (fit fits.path_id (tt, fits.attributes)))) is in
      record { it = taken.it; tells = ap route_of taken.tells; is = taken.is };
}

-- RIBs, by what their entries are read as
module _ {A : Type 0} {Is : Relation A} {says : A → Route} {Fits : Route → Type 0}
    (delimited : IsDelimited Is says route_octets Fits) (most : ℕ) where
  pub routes_read_back : IsReadBack (IsNumber 4 then IsPrefix most then Times 2 Is)
      (λ r. routes_of (r.0, ((r.1.0.0, rest r.1.0.1), map says r.1.1))) rib_octets (FitsRib most Fits)
  unfolding both_say both_octets
  routes_read_back = back_from (λ (r : Routes). (r.sequence, ((r.bits, r.prefix), r.entries))) routes_of (λ _. refl)
      (λ r fits.
      let long = fits.prefix in
      fit fits.sequence (fit (fits.bits, (record { inside = tt; many = omega (arith, long) }, fits.within))
      (record { tag_fits = fits.count; inside = record { each = fits.entries; many = refl } })))
      (λ r. append_assoc (octets_be 4 r.sequence) (octets_be 1 r.bits ++ r.prefix) _)
      (delimited_number 4 back_then delimited_deciding (delimited_number 1) (delimited_when (λ bits. bits ≤ most)
      (λ bits. delimited_sized {extra = 0} rest_read_back (octets_of_bits bits)))
      back_then tagged_read_back {tag = length} (delimited_number 2) (many_read_back delimited))

-- ---- at most one
pub one_table : IsOne IsTable
one_table = one_number 4 one_then one_octets 2 one_then one_times 2 IsPeer one_peer

-- a RIB, by what its entries are read as
pub one_routes : {A : Type 0} {Is : Relation A} → IsOne Is → (most : ℕ)
    → IsOne (IsNumber 4 then IsPrefix most then Times 2 Is)
one_routes {Is = Is} one most = one_number 4 one_then one_prefix most one_then one_times 2 Is one
