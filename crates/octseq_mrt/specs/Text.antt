-- The text of peers, RIB entries and sessions: RFC 5952 (IPv6) and RFC 5396, 2 (AS numbers).
use Rattle.std.specs.Prelude.{ℕ, Option, Some, None, List, [], ◌++◌, codes}
use Rattle.std.specs.Fmt.{decimal}
use Rattle.std.specs.Net.Addr.{octets_of}
use Rattle.std.specs.Net.Text.{ipv4_text}
use Rattle.octseq_bgp.specs.OctetsText.{number_dotted}
use Rattle.octseq_bgp.specs.Text.{address_text}
use Rattle.octseq_bgp.specs.declared.family.Afi.TheVariants as addresses
use Rattle.octseq_mrt.specs.Address.{Address}
use Rattle.octseq_mrt.specs.Bgp4Mp.{Bgp4Mp, Event}
use Rattle.octseq_mrt.specs.Peer.{Peer}
use Rattle.octseq_mrt.specs.Rib.{RibEntry}

-- an address
abbrev pub ip_text : Address → List ℕ
ip_text (Address.ipv4 octets) = ipv4_text octets
ip_text (Address.ipv6 segments) = address_text addresses.Ipv6 (octets_of segments)

-- a peer: its identifier, its address and its AS number
abbrev pub peer_text : Peer → List ℕ
peer_text p =
    codes "id " ++ number_dotted p.bgp_id ++ codes " address " ++ ip_text p.addr ++ codes " as " ++ decimal p.asn

-- a path id, if there is one
abbrev pub path_id_text : Option ℕ → List ℕ
path_id_text (Some id) = codes " path " ++ decimal id
path_id_text None = []

-- an entry: the number of its peer, its time and its path id
abbrev pub entry_text : RibEntry → List ℕ
entry_text e = decimal e.peer_index ++ codes " time " ++ decimal e.originated_time ++ path_id_text e.path_id

-- a state change
abbrev pub states_text : Event → List ℕ
states_text (Event.state_change states) = codes " state " ++ decimal states.0 ++ codes " " ++ decimal states.1
states_text (Event.message session octets) = []

-- the speakers of a session, an interface, and a state change
unfoldable pub bgp4mp_text : Bgp4Mp → List ℕ
bgp4mp_text b = codes "peer " ++ ip_text b.peer_addr ++ codes " as " ++ decimal b.peer_asn ++ codes " local "
    ++ ip_text b.local_addr ++ codes " as " ++ decimal b.local_asn ++ codes " interface " ++ decimal b.interface
    ++ states_text b.event
