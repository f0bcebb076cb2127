-- What contracts see of records that were read.
use Rattle.std.specs.Prelude.{List}
use Rattle.octseq.specs.declared.AsOctets.{Ghosts}
use Rattle.octseq.specs.Parser.{window}
use Rattle.octseq.specs.Window.{Window}
use Rattle.octseq_bgp.specs.Parts.{Attribute}
use Rattle.octseq_bgp.specs.ValueOf as bgp
use Rattle.octseq_mrt.specs.Address.{address_of}
use Rattle.octseq_mrt.specs.Bgp4Mp as events
use Rattle.octseq_mrt.specs.Peer as tables
use Rattle.octseq_mrt.specs.Record as records
use Rattle.octseq_mrt.specs.Rib as ribs
use Rattle.octseq_mrt.specs.Rib.{path_id_of}
use Rattle.octseq_mrt.specs.declared.bgp4mp.Bgp4Mp.{Bgp4Mp}
use Rattle.octseq_mrt.specs.declared.bgp4mp.Event.{Event}
use Rattle.octseq_mrt.specs.declared.bgp4mp.Event.TheVariants as event
use Rattle.octseq_mrt.specs.declared.header.CommonHeader.{CommonHeader}
use Rattle.octseq_mrt.specs.declared.peer.PeerEntry.{PeerEntry}
use Rattle.octseq_mrt.specs.declared.peer.PeerIndexTable.{PeerIndexTable}
use Rattle.octseq_mrt.specs.declared.peer.Peers.{Peers}
use Rattle.octseq_mrt.specs.declared.record.Record.{Record}
use Rattle.octseq_mrt.specs.declared.record.RecordValue.{RecordValue}
use Rattle.octseq_mrt.specs.declared.record.RecordValue.TheVariants as value
use Rattle.octseq_mrt.specs.declared.rib.Rib.{Rib}
use Rattle.octseq_mrt.specs.declared.rib.RibEntries.{RibEntries}
use Rattle.octseq_mrt.specs.declared.rib.RibEntry.{RibEntry}
use Rattle.octseq_mrt.specs.declared.rib_attribute.RibAttribute.{RibAttribute}
use Rattle.octseq_mrt.specs.declared.rib_attribute.RibAttributes.{RibAttributes}
use Rattle.octseq_mrt.specs.declared.rib_attribute.RibValue.{RibValue}
use Rattle.octseq_mrt.specs.declared.rib_attribute.RibValue.TheVariants as said

-- a header and the window of what follows it
abbrev pub record_of : {R : Type 0} {g : Ghosts R} → Record R g → CommonHeader × Window
record_of r = (r.header, window r.octets)

-- a peer
abbrev pub peer_of : PeerEntry → tables.Peer
peer_of p = record { peer_type = p.peer_type; bgp_id = p.bgp_id; addr = address_of p.addr; asn = p.asn.0 }

-- the peers that are left
abbrev pub peers_left : {R : Type 0} {g : Ghosts R} → Peers R g → List tables.Peer
peers_left peers = peers.ahead.0

-- a peer index table
abbrev pub table_of : {R : Type 0} {g : Ghosts R} → PeerIndexTable R g → tables.PeerIndexTable
table_of t = record {
  collector_bgp_id = t.collector_bgp_id;
  view_name = window t.view_name;
  peers = peers_left t.peers;
}

-- an attribute of a RIB entry
abbrev pub attribute_of : {R : Type 0} {g : Ghosts R} → RibAttribute R g → Attribute
attribute_of a = (a.flags.0, (a.type_code, window a.value))

-- the attributes that are left
abbrev pub attributes_left : {R : Type 0} {g : Ghosts R} → RibAttributes R g → List Attribute
attributes_left attributes = attributes.ahead.0

-- the value of an attribute of a RIB entry
abbrev pub rib_value_of : {R : Type 0} {g : Ghosts R} → RibValue R g → ribs.RibValue
rib_value_of (said.NextHop octets) = ribs.RibValue.next_hop (window octets)
rib_value_of (said.Value v) = ribs.RibValue.value (bgp.value_of v)

-- a RIB entry
abbrev pub entry_of : {R : Type 0} {g : Ghosts R} → RibEntry R g → ribs.RibEntry
entry_of e = record {
  peer_index = e.peer_index;
  originated_time = e.originated_time;
  path_id = path_id_of e.path_id;
  attributes = attributes_left e.attributes;
}

-- the entries that are left
abbrev pub entries_left : {R : Type 0} {g : Ghosts R} → RibEntries R g → List ribs.RibEntry
entries_left entries = entries.ahead.0

-- a RIB
abbrev pub rib_of : {R : Type 0} {g : Ghosts R} → Rib R g → ribs.Rib
rib_of r = record {
  family = r.family;
  sequence = r.sequence;
  prefix = (r.len, window r.octets);
  entries = entries_left r.entries;
}

-- an event
abbrev pub event_of : {R : Type 0} {g : Ghosts R} → Event R g → events.Event
event_of (event.StateChange old new) = events.Event.state_change (old, new)
event_of (event.Message message) = events.Event.message message.session (window message.octets)

-- a message or a state change
abbrev pub bgp4mp_of : {R : Type 0} {g : Ghosts R} → Bgp4Mp R g → events.Bgp4Mp
bgp4mp_of b = record {
  microseconds = b.microseconds;
  peer_asn = b.peer_asn.0;
  local_asn = b.local_asn.0;
  interface = b.interface;
  peer_addr = address_of b.peer_addr;
  local_addr = address_of b.local_addr;
  event = event_of b.event;
}

-- the value of a record
abbrev pub value_of : {R : Type 0} {g : Ghosts R} → RecordValue R g → records.Value
value_of (value.PeerIndexTable t) = records.Value.peer_index_table (table_of t)
value_of (value.Rib r) = records.Value.rib (rib_of r)
value_of (value.Bgp4Mp b) = records.Value.bgp4mp (bgp4mp_of b)
value_of (value.Opaque octets) = records.Value.opaque (window octets)
