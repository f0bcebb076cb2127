-- The text of a record: a line for each of its parts.
use Rattle.std.specs.Prelude.{◌≡◌, ◌⊎◌, ℕ, ◌+◌, ◌-◌, if◌then◌else◌, nat_eq, Option, Some, None}
use Rattle.std.specs.Prelude.{List, [], ◌∷◌, ◌++◌, length, take, drop, replicate, codes}
use Rattle.std.specs.Fmt.{decimal}
use Rattle.octseq.specs.Window.{Window, rest}
use Rattle.octseq_bgp.specs.Parts.{Attribute, flags_of, type_of, inside_of}
use Rattle.octseq_bgp.specs.Family.{afi_of}
use Rattle.octseq_bgp.specs.Message as bgp
use Rattle.octseq_bgp.specs.MessageText.{line, attribute_lines, IsMessageText}
use Rattle.octseq_bgp.specs.OctetsText.{spaced, number_dotted}
use Rattle.octseq.specs.OctetsText.{opaque_text, string_text}
use Rattle.octseq_bgp.specs.Prefix.{Nlri}
use Rattle.octseq_bgp.specs.Text.{type_text}
use Rattle.octseq_bgp.specs.ValueText.{flags_text, next_hop_text, nlri_text}
use Rattle.octseq_bgp.specs.declared.attribute.attribute_type.AttributeType.TheVariants as kind
use Rattle.octseq_bgp.specs.declared.attribute.next_hop.NextHop.{NextHop}
use Rattle.octseq_bgp.specs.declared.attribute.next_hop.NextHop.TheVariants as hop
use Rattle.octseq_bgp.specs.declared.session.SessionConfig.{SessionConfig}
use Rattle.octseq_mrt.specs.Bgp4Mp.{Bgp4Mp, Event}
use Rattle.octseq_mrt.specs.Peer.{Peer, PeerIndexTable}
use Rattle.octseq_mrt.specs.Record.{Value, IsValue}
use Rattle.octseq_mrt.specs.Rib.{Rib, RibEntry, RibValue, IsRibValue}
use Rattle.octseq_mrt.specs.Text.{peer_text, entry_text, bgp4mp_text}
use Rattle.octseq_mrt.specs.declared.header.CommonHeader.{CommonHeader}

-- ---- peer index tables

-- a line for each peer, numbered from a start on
abbrev pub peer_lines : ℕ → List Peer → List ℕ
peer_lines n [] = []
peer_lines n (p ∷ more) = line (codes "peer") (decimal n ++ spaced (peer_text p)) ++ peer_lines (n + 1) more

-- a table: its time, the identifier of the collector, and the name of the view
abbrev pub table_text : ℕ → ℕ → List ℕ → List ℕ
table_text time collector view =
    decimal time ++ codes " collector " ++ number_dotted collector ++ codes " view " ++ string_text view

-- and its peers, numbered from 0
abbrev pub table_lines : CommonHeader → PeerIndexTable → List ℕ
table_lines h t =
    line (codes "peers") (table_text h.timestamp t.collector_bgp_id (rest t.view_name)) ++ peer_lines 0 t.peers

-- ---- RIBs

-- next hops only, by their number of octets: one IPv4 address (4), one IPv6 address (16), or two
abbrev pub next_hop_of : List ℕ → NextHop
next_hop_of octets = if nat_eq (length octets) 4 then hop.Ipv4 octets
    else (if nat_eq (length octets) 16 then hop.Ipv6 octets else hop.Ipv6LinkLocal (take 16 octets) (drop 16 octets))

-- the line of an attribute with next hops only
abbrev pub hops_line : ℕ → List ℕ → List ℕ
hops_line flags octets = line (codes "attribute")
    (flags_text flags ++ spaced (type_text kind.MpReachNlri) ++ next_hop_text (next_hop_of octets))

-- the lines of an attribute of a RIB entry: that one, or those of an attribute of a message
abbrev pub rib_attribute_lines : Attribute → RibValue → List ℕ
rib_attribute_lines e (RibValue.next_hop inside) = hops_line (flags_of e) (rest inside)
rib_attribute_lines e (RibValue.value v) = attribute_lines e v

-- the lines of each attribute, by its value
abbrev pub AreRibAttributeLines : List Attribute → List ℕ → Type 0
AreRibAttributeLines [] text = text ≡ []
AreRibAttributeLines (e ∷ more) text = (v : RibValue) × (rest : List ℕ) × IsRibValue (type_of e) (inside_of e) v
    × AreRibAttributeLines more rest × (text ≡ rib_attribute_lines e v ++ rest)

-- an entry, and its attributes
abbrev pub IsEntryText : RibEntry → List ℕ → Type 0
IsEntryText e text = (attributes : List ℕ) × AreRibAttributeLines e.attributes attributes
    × (text ≡ line (codes "entry") (entry_text e) ++ attributes)

-- each entry
abbrev pub AreEntryLines : List RibEntry → List ℕ → Type 0
AreEntryLines [] text = text ≡ []
AreEntryLines (e ∷ more) text = (here : List ℕ) × (rest : List ℕ) × IsEntryText e here × AreEntryLines more rest
    × (text ≡ here ++ rest)

-- the prefix of a RIB
abbrev pub prefix_of : Rib → Nlri
prefix_of r = record { path_id = None; afi = afi_of r.family; bits = r.prefix.0; octets = r.prefix.1 }

-- a RIB: its time, its subtype, its sequence number and its prefix
abbrev pub rib_text : CommonHeader → Rib → List ℕ
rib_text h r = decimal h.timestamp ++ spaced (decimal h.subtype) ++ codes " sequence " ++ decimal r.sequence
    ++ spaced (nlri_text (prefix_of r))

-- and its entries
abbrev pub IsRibText : CommonHeader → Rib → List ℕ → Type 0
IsRibText h r text = (entries : List ℕ) × AreEntryLines r.entries entries
    × (text ≡ line (codes "rib") (rib_text h r) ++ entries)

-- ---- BGP4MP

-- a number with at least six digits, with leading zeros (48)
abbrev pub six_digits : ℕ → List ℕ
six_digits n = replicate (6 - length (decimal n)) 48 ++ decimal n

-- microseconds, if there are any, after a full stop
abbrev pub microseconds_text : Option ℕ → List ℕ
microseconds_text (Some n) = codes "." ++ six_digits n
microseconds_text None = []

-- a session: its time, its subtype, its speakers, and a state change
abbrev pub session_text : CommonHeader → Bgp4Mp → List ℕ
session_text h b = decimal h.timestamp ++ microseconds_text b.microseconds ++ spaced (decimal h.subtype)
    ++ spaced (bgp4mp_text b)

-- octets that are a message of a session, otherwise `malformed`
abbrev pub IsOctetsText : SessionConfig → List ℕ → List ℕ → Type 0
IsOctetsText s octets text = ((m : bgp.Message) × bgp.IsMessage s octets m × IsMessageText m text)
    ⊎ ((m : bgp.Message) → ¬ bgp.IsMessage s octets m) × (text ≡ codes "malformed\n")

-- what follows the line of a session: the text of its message
abbrev pub IsEventText : Event → List ℕ → Type 0
IsEventText (Event.state_change states) text = text ≡ []
IsEventText (Event.message session octets) text = IsOctetsText session (rest octets) text

abbrev pub IsBgp4MpText : CommonHeader → Bgp4Mp → List ℕ → Type 0
IsBgp4MpText h b text = (event : List ℕ) × IsEventText b.event event
    × (text ≡ line (codes "bgp4mp") (session_text h b) ++ event)

-- ---- records

-- opaque octets, with their time, type and subtype
abbrev pub opaque_record_text : CommonHeader → List ℕ → List ℕ
opaque_record_text h octets = decimal h.timestamp ++ spaced (decimal h.type_code) ++ spaced (decimal h.subtype)
    ++ spaced (opaque_text octets)

-- the value of a record, after its header
abbrev pub IsValueText : CommonHeader → Value → List ℕ → Type 0
IsValueText h (Value.peer_index_table t) text = text ≡ table_lines h t
IsValueText h (Value.rib r) text = IsRibText h r text
IsValueText h (Value.bgp4mp b) text = IsBgp4MpText h b text
IsValueText h (Value.opaque w) text = text ≡ line (codes "record") (opaque_record_text h (rest w))

-- a record: the text of its value
abbrev pub IsRecordText : CommonHeader × Window → List ℕ → Type 0
IsRecordText r text = (v : Value) × IsValue r.0 r.1 v × IsValueText r.0 v text
