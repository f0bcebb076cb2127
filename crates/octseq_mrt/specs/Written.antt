-- What records that are written say, without offsets, and their octets: RFC 6396, 2 and 4, and RFC 8050, 3 and 4.
use Rattle.std.specs.Prelude.{◌≡◌, ℕ, ◌<◌, ◌≤◌, ◌^◌, Bool, true, false, Option, is_some, slice_index}
use Rattle.std.specs.Prelude.{List, ◌++◌, length}
use Rattle.std.specs.List.{AllByRecursion, flat_map}
use Rattle.std.specs.Net.Addr.{octets_of}
use Rattle.octseq.specs.Integer.{octets_be}
use Rattle.octseq.specs.Part.{part_of}
use Rattle.octseq.specs.Window.{rest}
use Rattle.octseq_format.specs.Conditional.{IfFits}
use Rattle.octseq_format.specs.Optional.{optional_octets}
use Rattle.octseq_bgp.specs.Parts.{octets_of_bits}
use Rattle.octseq_bgp.specs.Path.{asn_size}
use Rattle.octseq_bgp.specs.declared.family.Afi.{Afi}
use Rattle.octseq_bgp.specs.declared.family.Afi.TheVariants as addresses
use Rattle.octseq_mrt.specs.Address.{Address, family_number}
use Rattle.octseq_mrt.specs.Bgp4Mp.{Bgp4Mp, Event}
use Rattle.octseq_mrt.specs.Kind.{is_state_change, has_wide_asns}
use Rattle.octseq_mrt.specs.Peer.{Peer, peer_family, has_wide_asn}
use Rattle.octseq_mrt.specs.declared.kind.Bgp4MpSubtype.{Bgp4MpSubtype}

-- a record: seconds, a type, a subtype, and the octets that follow, after their length
abbrev pub record_octets : ℕ → ℕ → ℕ → List ℕ → List ℕ
record_octets time type_code subtype octets =
    octets_be 4 time ++ (octets_be 2 type_code ++ (octets_be 2 subtype ++ part_of 4 octets))

-- a list: the number of its items, and the octets of each
abbrev pub list_octets : {A : Type 0} → (A → List ℕ) → List A → List ℕ
list_octets item items = octets_be 2 (length items) ++ flat_map item items

-- ---- addresses and optional numbers

abbrev pub family_of : Address → Afi
family_of (Address.ipv4 octets) = addresses.Ipv4
family_of (Address.ipv6 segments) = addresses.Ipv6

abbrev pub address_octets : Address → List ℕ
address_octets (Address.ipv4 octets) = octets
address_octets (Address.ipv6 segments) = octets_of segments

-- it is an address of the family: four octets, or eight segments
abbrev pub FitsFamily : Afi → Address → Type 0
FitsFamily addresses.Ipv4 (Address.ipv4 octets) = length octets ≡ 4
FitsFamily addresses.Ipv6 (Address.ipv6 segments) =
    (length segments ≡ 8) × ((k : ℕ) → slice_index segments k < 2 ^ 16)
FitsFamily afi a = ⊥

-- there is a number that fits four octets, or none where there is to be none
abbrev pub FitsOptional : Bool → Option ℕ → Type 0
FitsOptional has = IfFits (λ _. has) (λ n. n < 256 ^ 4) 0

-- ---- peer index tables: RFC 6396, 4.3.1

abbrev pub peer_octets : Peer → List ℕ
peer_octets p = octets_be 1 p.peer_type ++ (octets_be 4 p.bgp_id ++ (address_octets p.addr
    ++ octets_be (asn_size (has_wide_asn p.peer_type)) p.asn))

-- Its numbers fit their octets, and its type says the family of its address.
pub record FitsPeer (p : Peer) : Type 0 where
  pub peer_type : p.peer_type < 256 ^ 1
  pub bgp_id : p.bgp_id < 256 ^ 4
  pub addr : FitsFamily (peer_family p.peer_type) p.addr
  pub asn : p.asn < 256 ^ asn_size (has_wide_asn p.peer_type)

-- A table: the identifier of the collector, the name of the view, and the peers.
pub record PeerTable : Type 0 where
  pub collector_bgp_id : ℕ
  pub view_name : List ℕ
  pub peers : List Peer

-- what comes before the peers
abbrev pub table_head : PeerTable → List ℕ
table_head t = octets_be 4 t.collector_bgp_id ++ part_of 2 t.view_name

abbrev pub peer_table_octets : PeerTable → List ℕ
peer_table_octets t = table_head t ++ list_octets peer_octets t.peers

pub record FitsPeerTable (t : PeerTable) : Type 0 where
  pub collector_bgp_id : t.collector_bgp_id < 256 ^ 4
  pub view_name : length t.view_name < 256 ^ 2
  pub peers : AllByRecursion FitsPeer t.peers
  pub count : length t.peers < 256 ^ 2

-- ---- RIBs: RFC 6396, 4.3.2 and 4.3.4, and RFC 8050, 4

-- An entry: the number of a peer, seconds, a path id, and the octets of its attributes.
pub record Route : Type 0 where
  pub peer_index : ℕ
  pub originated_time : ℕ
  pub path_id : Option ℕ
  pub attributes : List ℕ

abbrev pub route_octets : Route → List ℕ
route_octets e = octets_be 2 e.peer_index ++ (octets_be 4 e.originated_time
    ++ (optional_octets (octets_be 4) e.path_id ++ part_of 2 e.attributes))

pub record FitsRoute (paths : Bool) (e : Route) : Type 0 where
  pub peer_index : e.peer_index < 256 ^ 2
  pub originated_time : e.originated_time < 256 ^ 4
  pub path_id : FitsOptional paths e.path_id
  pub attributes : length e.attributes < 256 ^ 2

-- A RIB: a sequence number, the length of a prefix in bits, its octets, and the entries.
pub record Routes : Type 0 where
  pub sequence : ℕ
  pub bits : ℕ
  pub prefix : List ℕ
  pub entries : List Route

-- what comes before the entries
abbrev pub rib_head : Routes → List ℕ
rib_head r = octets_be 4 r.sequence ++ (octets_be 1 r.bits ++ r.prefix)

abbrev pub rib_octets : Routes → List ℕ
rib_octets r = rib_head r ++ list_octets route_octets r.entries

-- The prefix has at most `most` bits, and each entry fits.
pub record FitsRib (most : ℕ) (Fits : Route → Type 0) (r : Routes) : Type 0 where
  pub sequence : r.sequence < 256 ^ 4
  pub bits : r.bits < 256 ^ 1
  pub within : r.bits ≤ most
  pub prefix : length r.prefix ≡ octets_of_bits r.bits
  pub entries : AllByRecursion Fits r.entries
  pub count : length r.entries < 256 ^ 2

-- ---- BGP4MP: RFC 6396, 4.4, and RFC 8050, 3

-- two states, or the octets of a message
abbrev pub event_octets : Event → List ℕ
event_octets (Event.state_change states) = octets_be 2 states.0 ++ octets_be 2 states.1
event_octets (Event.message session octets) = rest octets

abbrev pub bgp4mp_octets : Bgp4MpSubtype → Bgp4Mp → List ℕ
bgp4mp_octets s b = optional_octets (octets_be 4) b.microseconds ++ (octets_be (asn_size (has_wide_asns s)) b.peer_asn
    ++ (octets_be (asn_size (has_wide_asns s)) b.local_asn ++ (octets_be 2 b.interface
    ++ (octets_be 2 (family_number (family_of b.peer_addr)) ++ (address_octets b.peer_addr
    ++ (address_octets b.local_addr ++ event_octets b.event))))))

-- it is an event of the subtype
abbrev pub FitsEvent : Bgp4MpSubtype → Event → Type 0
FitsEvent s (Event.state_change states) =
    (is_state_change s ≡ true) × (states.0 < 256 ^ 2) × (states.1 < 256 ^ 2)
FitsEvent s (Event.message session octets) = is_state_change s ≡ false

abbrev pub is_change : Event → Bool
is_change (Event.state_change states) = true
is_change (Event.message session octets) = false

-- what values of these types need so that they fit: the AS numbers, both addresses of one family, and the event
abbrev pub IsOfSubtype : Bgp4MpSubtype → Bgp4Mp → Type 0
IsOfSubtype s b = (b.peer_asn < 256 ^ asn_size (has_wide_asns s)) × (b.local_asn < 256 ^ asn_size (has_wide_asns s))
    × FitsFamily (family_of b.peer_addr) b.local_addr × (is_change b.event ≡ is_state_change s)

-- Its numbers fit their octets, both addresses are of one family, and its event is one of the subtype.
pub record FitsBgp4Mp (s : Bgp4MpSubtype) (b : Bgp4Mp) : Type 0 where
  pub microseconds : FitsOptional (is_some b.microseconds) b.microseconds
  pub peer_asn : b.peer_asn < 256 ^ asn_size (has_wide_asns s)
  pub local_asn : b.local_asn < 256 ^ asn_size (has_wide_asns s)
  pub interface : b.interface < 256 ^ 2
  pub peer_addr : FitsFamily (family_of b.peer_addr) b.peer_addr
  pub local_addr : FitsFamily (family_of b.peer_addr) b.local_addr
  pub event : FitsEvent s b.event
