-- The header of an MRT record, and the rows of numbers that C sees of it.
use Rattle.std.specs.Prelude.{◌≡◌, ℕ, ◌+◌, Option, Some, None, List, [], ◌∷◌, ◌++◌, length, map, replicate}
use Rattle.std.specs.List.{flat_map}
use Rattle.std.specs.Net.Addr.{octets_of}
use Rattle.octseq.specs.Window.{Window, left, whole}
use Rattle.octseq_bgp.specs.Family.{afi_of, safi_number}
use Rattle.octseq_mrt.specs.Address.{Address}
use Rattle.octseq_mrt.specs.Bgp4Mp.{Bgp4Mp, Event}
use Rattle.octseq_mrt.specs.Header.{IsHeader}
use Rattle.octseq_mrt.specs.Peer.{Peer, PeerIndexTable}
use Rattle.octseq_mrt.specs.Record.{AreRecord, IsValue, Value}
use Rattle.octseq_mrt.specs.Rib.{Rib, RibEntry}
use Rattle.octseq_mrt.specs.declared.header.CommonHeader.{CommonHeader}
use Rattle.octseq_c.specs.BgpRows.{afi_of_address, row_of_attribute}
use Rattle.octseq_c.specs.BgpSession.{session_flags}
use Rattle.octseq_c.specs.declared.bgp.rows.BgpRow.{BgpRow}
use Rattle.octseq_c.specs.declared.mrt.header.MrtHeader.{MrtHeader}
use Rattle.octseq_c.specs.declared.mrt.row.MrtRow.{MrtRow}

-- The octets begin with a header, whose numbers these are. The length is that of the whole record.
pub record HasMrtHeader (octets : List ℕ) (row : MrtHeader) : Type 0 where
  pub header : CommonHeader
  pub after : Window
  pub is : IsHeader (whole octets) header after
  pub len : row.len ≡ 12 + header.length
  pub timestamp : row.timestamp ≡ header.timestamp
  pub type_code : row.type_code ≡ header.type_code
  pub subtype : row.subtype ≡ header.subtype

-- ---- parts of rows

-- an address in 16 octets: those of IPv4 are the first four, and zeros follow them
abbrev pub address_octets : Address → List ℕ
address_octets (Address.ipv4 octets) = octets ++ replicate 12 0
address_octets (Address.ipv6 segments) = octets_of segments

-- how many of these are the address
abbrev pub address_len : Address → ℕ
address_len (Address.ipv4 octets) = 4
address_len (Address.ipv6 segments) = 16

-- the AFI of an address
abbrev pub address_afi : Address → ℕ
address_afi (Address.ipv4 octets) = 1
address_afi (Address.ipv6 segments) = 2

-- an optional number, or 0
abbrev pub number_or_zero : Option ℕ → ℕ
number_or_zero None = 0
number_or_zero (Some n) = n

-- 1 if there is a number, 0 if there is none
abbrev pub number_count : Option ℕ → ℕ
number_count None = 0
number_count (Some n) = 1

-- ---- rows

-- the row of octets without the form of their type and subtype: kind 0, and numbers that say nothing
abbrev pub row_of_opaque : Window → MrtRow
row_of_opaque w = record {
  at = w.position;
  len = left w;
  count = 0;
  kind = 0;
  id = 0;
  time = 0;
  asn = 0;
  local_asn = 0;
  session = 0;
  old_state = 0;
  new_state = 0;
  index = 0;
  afi = 0;
  safi = 0;
  bits = 0;
  has_number = 0;
  addr_len = 0;
  addr = replicate 16 0;
  local_addr = replicate 16 0;
}

-- a row without octets
abbrev pub no_row : MrtRow
no_row = row_of_opaque (whole [])

-- a peer index table: the name of its view, the identifier of the collector, and how many peers there are
abbrev pub row_of_table : PeerIndexTable → MrtRow
row_of_table t = record (row_of_opaque t.view_name) { count = length t.peers; kind = 1; id = t.collector_bgp_id }

-- a peer: its identifier, AS number and address
abbrev pub row_of_peer : Peer → MrtRow
row_of_peer p = record no_row {
  kind = 2;
  id = p.bgp_id;
  asn = p.asn;
  afi = address_afi p.addr;
  addr_len = address_len p.addr;
  addr = address_octets p.addr;
}

-- a RIB: its prefix and sequence number, and how many entries there are
abbrev pub row_of_rib : Rib → MrtRow
row_of_rib r = record (row_of_opaque r.prefix.1) {
  count = length r.entries;
  kind = 3;
  id = r.sequence;
  afi = afi_of_address (afi_of r.family);
  safi = safi_number r.family;
  bits = r.prefix.0;
}

-- an entry: its time, its path id, the number of its peer, and how many attributes there are
abbrev pub row_of_entry : RibEntry → MrtRow
row_of_entry e = record no_row {
  count = length e.attributes;
  kind = 4;
  id = number_or_zero e.path_id;
  time = e.originated_time;
  index = e.peer_index;
  has_number = number_count e.path_id;
}

-- a message with its session, or the two states of a state change
abbrev pub with_event : Event → MrtRow
with_event (Event.message session octets) = record (row_of_opaque octets) { kind = 5; session = session_flags session }
with_event (Event.state_change states) = record no_row { kind = 6; old_state = states.0; new_state = states.1 }

-- such an event with its microseconds, AS numbers, interface and addresses
abbrev pub row_of_event : Bgp4Mp → MrtRow
row_of_event b = record (with_event b.event) {
  time = number_or_zero b.microseconds;
  asn = b.peer_asn;
  local_asn = b.local_asn;
  index = b.interface;
  afi = address_afi b.peer_addr;
  has_number = number_count b.microseconds;
  addr_len = address_len b.peer_addr;
  addr = address_octets b.peer_addr;
  local_addr = address_octets b.local_addr;
}

-- the rows of a value: a table and its peers, a RIB and its entries, an event, or opaque octets
abbrev pub rows_of_record : Value → List MrtRow
rows_of_record (Value.peer_index_table t) = row_of_table t ∷ map row_of_peer t.peers
rows_of_record (Value.rib r) = row_of_rib r ∷ map row_of_entry r.entries
rows_of_record (Value.bgp4mp b) = row_of_event b ∷ []
rows_of_record (Value.opaque w) = row_of_opaque w ∷ []

-- The octets are a record, and this is its value.
pub record IsMrtRecord (octets : List ℕ) (value : Value) : Type 0 where
  pub found : CommonHeader × Window
  pub is : AreRecord octets found
  pub value_is : IsValue found.0 found.1 value

-- These are its rows.
pub record AreMrtRowsOf (octets : List ℕ) (rows : List MrtRow) : Type 0 where
  pub value : Value
  pub is : IsMrtRecord octets value
  pub rows_are : rows ≡ rows_of_record value

-- ---- the attributes of a RIB

abbrev pub rows_of_attributes : RibEntry → List BgpRow
rows_of_attributes e = map row_of_attribute e.attributes

-- those of each entry; other values have none
abbrev pub rows_of_entries : Value → List BgpRow
rows_of_entries (Value.rib r) = flat_map rows_of_attributes r.entries
rows_of_entries _ = []

-- The octets are a record, and these are the rows of the attributes of its entries.
pub record AreMrtAttributesOf (octets : List ℕ) (rows : List BgpRow) : Type 0 where
  pub value : Value
  pub is : IsMrtRecord octets value
  pub rows_are : rows ≡ rows_of_entries value
