-- What records say, without offsets, and records that say what was written.
use Rattle.std.specs.Prelude.{◌≡◌, ℕ, is_some, if◌then◌else◌, List, map}
use Rattle.std.specs.List.{AllByRecursion}
use Rattle.octseq.specs.Window.{Window, rest, whole}
use Rattle.octseq_bgp.specs.ReadWritten.{attribute_says}
use Rattle.octseq_bgp.specs.Written.{WrittenAttribute, AttributeFits, attributes_octets}
use Rattle.octseq_mrt.specs.Bgp4Mp.{Bgp4Mp, Event, message_session}
use Rattle.octseq_mrt.specs.Kind.{kind_type, kind_subtype}
use Rattle.octseq_mrt.specs.Peer.{PeerIndexTable}
use Rattle.octseq_mrt.specs.Record.{Value, AreRecord, IsValue}
use Rattle.octseq_mrt.specs.Rib.{Rib, RibEntry}
use Rattle.octseq_mrt.specs.Written.{PeerTable, Route, Routes}
use Rattle.octseq_mrt.specs.declared.header.CommonHeader.{CommonHeader}
use Rattle.octseq_mrt.specs.declared.kind.Bgp4MpSubtype.{Bgp4MpSubtype}
use Rattle.octseq_mrt.specs.declared.kind.RecordKind.{RecordKind}
use Rattle.octseq_mrt.specs.declared.kind.RecordKind.TheVariants as kind

-- The octets are a record of this time and kind, whose value says what is wanted.
pub record IsReadAs (time : ℕ) (k : RecordKind) (Says : Value → Type 0) (octets : List ℕ) : Type 0 where
  pub header : CommonHeader
  pub body : Window
  pub value : Value
  pub are : AreRecord octets (header, body)
  pub timestamp : header.timestamp ≡ time
  pub type_code : header.type_code ≡ kind_type k
  pub subtype : header.subtype ≡ kind_subtype k
  pub is : IsValue header body value
  pub says : Says value

-- ---- peer index tables

abbrev pub said_table : PeerIndexTable → PeerTable
said_table t = record { collector_bgp_id = t.collector_bgp_id; view_name = rest t.view_name; peers = t.peers }

abbrev pub SaysTable : PeerTable → Value → Type 0
SaysTable t (Value.peer_index_table found) = said_table found ≡ t
SaysTable t v = ⊥

-- ---- RIBs

-- the octets are those of path attributes
abbrev pub AreAttributes : List ℕ → Type 0
AreAttributes octets =
    (row : List WrittenAttribute) × AllByRecursion AttributeFits row × (octets ≡ attributes_octets row)

abbrev pub said_entry : RibEntry → Route
said_entry e = record {
  peer_index = e.peer_index;
  originated_time = e.originated_time;
  path_id = e.path_id;
  attributes = attributes_octets (map attribute_says e.attributes);
}

abbrev pub said_rib : Rib → Routes
said_rib r = record {
  sequence = r.sequence;
  bits = r.prefix.0;
  prefix = rest r.prefix.1;
  entries = map said_entry r.entries;
}

abbrev pub SaysRib : Routes → Value → Type 0
SaysRib r (Value.rib found) = said_rib found ≡ r
SaysRib r v = ⊥

-- ---- BGP4MP

-- the event of a subtype: a message has the session that the subtype says, and its octets alone
abbrev pub said_event : Bgp4MpSubtype → Event → Event
said_event s (Event.state_change states) = Event.state_change states
said_event s (Event.message session octets) = Event.message (message_session s) (whole (rest octets))

abbrev pub said_bgp4mp : Bgp4MpSubtype → Bgp4Mp → Bgp4Mp
said_bgp4mp s b = record b { event = said_event s b.event }

abbrev pub SaysBgp4Mp : Bgp4MpSubtype → Bgp4Mp → Value → Type 0
SaysBgp4Mp s b (Value.bgp4mp found) = said_bgp4mp s found ≡ said_bgp4mp s b
SaysBgp4Mp s b v = ⊥

-- the kind of a subtype with microseconds or without
abbrev pub bgp4mp_kind : Bgp4MpSubtype → Bgp4Mp → RecordKind
bgp4mp_kind s b = if is_some b.microseconds then kind.Bgp4MpEt s else kind.Bgp4Mp s
