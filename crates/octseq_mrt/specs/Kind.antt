-- The numbers of the types and subtypes whose records are parsed: RFC 6396, 4 and 4.3 to 4.5, and RFC 8050, 3 and 4.
use Rattle.std.specs.Prelude.{Bool, true, false, if◌then◌else◌, ℕ}
use Rattle.octseq_bgp.specs.declared.family.AfiSafiType.{AfiSafiType}
use Rattle.octseq_bgp.specs.declared.family.AfiSafiType.TheVariants as family
use Rattle.octseq_mrt.specs.declared.kind.Bgp4MpSubtype.{Bgp4MpSubtype}
use Rattle.octseq_mrt.specs.declared.kind.Bgp4MpSubtype.TheVariants as subtype
use Rattle.octseq_mrt.specs.declared.kind.RecordKind.{RecordKind}
use Rattle.octseq_mrt.specs.declared.kind.RecordKind.TheVariants as kind

-- the number of a subtype of BGP4MP: RFC 6396, 4.4, and RFC 8050, 3
abbrev pub bgp4mp_number : Bgp4MpSubtype → ℕ
bgp4mp_number subtype.StateChange = 0
bgp4mp_number subtype.Message = 1
bgp4mp_number subtype.MessageAs4 = 4
bgp4mp_number subtype.StateChangeAs4 = 5
bgp4mp_number subtype.MessageLocal = 6
bgp4mp_number subtype.MessageAs4Local = 7
bgp4mp_number subtype.MessageAddPath = 8
bgp4mp_number subtype.MessageAs4AddPath = 9
bgp4mp_number subtype.MessageLocalAddPath = 10
bgp4mp_number subtype.MessageAs4LocalAddPath = 11

-- a state change rather than a message
abbrev pub is_state_change : Bgp4MpSubtype → Bool
is_state_change subtype.StateChange = true
is_state_change subtype.StateChangeAs4 = true
is_state_change _ = false

-- AS numbers have four octets rather than two
abbrev pub has_wide_asns : Bgp4MpSubtype → Bool
has_wide_asns subtype.MessageAs4 = true
has_wide_asns subtype.StateChangeAs4 = true
has_wide_asns subtype.MessageAs4Local = true
has_wide_asns subtype.MessageAs4AddPath = true
has_wide_asns subtype.MessageAs4LocalAddPath = true
has_wide_asns _ = false

-- prefixes have path ids
abbrev pub has_path_ids : Bgp4MpSubtype → Bool
has_path_ids subtype.MessageAddPath = true
has_path_ids subtype.MessageAs4AddPath = true
has_path_ids subtype.MessageLocalAddPath = true
has_path_ids subtype.MessageAs4LocalAddPath = true
has_path_ids _ = false

-- the subtype of a RIB of an address family: RFC 6396, 4.3.2; with path ids: RFC 8050, 4
abbrev pub rib_number : AfiSafiType → Bool → ℕ
rib_number family.Ipv4Unicast paths = if paths then 8 else 2
rib_number family.Ipv4Multicast paths = if paths then 9 else 3
rib_number family.Ipv6Unicast paths = if paths then 10 else 4
rib_number family.Ipv6Multicast paths = if paths then 11 else 5

-- the type of a kind: TABLE_DUMP_V2, BGP4MP or BGP4MP_ET
abbrev pub kind_type : RecordKind → ℕ
kind_type kind.PeerIndexTable = 13
kind_type (kind.Rib f paths) = 13
kind_type (kind.Bgp4Mp s) = 16
kind_type (kind.Bgp4MpEt s) = 17

-- the subtype of a kind
abbrev pub kind_subtype : RecordKind → ℕ
kind_subtype kind.PeerIndexTable = 1
kind_subtype (kind.Rib f paths) = rib_number f paths
kind_subtype (kind.Bgp4Mp s) = bgp4mp_number s
kind_subtype (kind.Bgp4MpEt s) = bgp4mp_number s
