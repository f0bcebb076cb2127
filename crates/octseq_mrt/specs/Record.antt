-- The value of a record, by its type and subtype: RFC 6396, 4.
use Rattle.std.specs.Prelude.{◌≡◌, ◌⊎◌, true, false, List, ℕ}
use Rattle.octseq.specs.Window.{Window, whole}
use Rattle.octseq_bgp.specs.Fills.{Whole}
use Rattle.octseq_mrt.specs.Bgp4Mp.{Bgp4Mp, IsBgp4Mp}
use Rattle.octseq_mrt.specs.Header.{IsRecord}
use Rattle.octseq_mrt.specs.Kind.{kind_type, kind_subtype}
use Rattle.octseq_mrt.specs.Peer.{PeerIndexTable, IsPeerIndexTable}
use Rattle.octseq_mrt.specs.Rib.{Rib, IsRib}
use Rattle.octseq_mrt.specs.declared.header.CommonHeader.{CommonHeader}
use Rattle.octseq_mrt.specs.declared.kind.RecordKind.{RecordKind}
use Rattle.octseq_mrt.specs.declared.kind.RecordKind.TheVariants as kind

-- all the octets are a record
abbrev pub AreRecord : List ℕ → CommonHeader × Window → Type 0
AreRecord octets r = Whole IsRecord (whole octets) r

-- A peer index table; a RIB; a message or a state change; or octets without the form of their type and subtype.
pub data Value : Type 0 where
  peer_index_table : PeerIndexTable → Value
  rib : Rib → Value
  bgp4mp : Bgp4Mp → Value
  opaque : Window → Value

-- a value made from what a window says
abbrev pub Made : {A : Type 0} → (A → Value) → (A → Type 0) → Value → Type 0
Made {A} make Is v = (a : A) × (v ≡ make a) × Is a

-- the window has the form of a kind, and is this value
abbrev pub HasForm : RecordKind → Window → Value → Type 0
HasForm kind.PeerIndexTable w = Made Value.peer_index_table (IsPeerIndexTable w)
HasForm (kind.Rib f paths) w = Made Value.rib (IsRib f paths w)
HasForm (kind.Bgp4Mp s) w = Made Value.bgp4mp (IsBgp4Mp false s w)
HasForm (kind.Bgp4MpEt s) w = Made Value.bgp4mp (IsBgp4Mp true s w)

-- the octets of a record have the form of its type and subtype, and are this value
abbrev pub IsTyped : CommonHeader → Window → Value → Type 0
IsTyped h w v = (k : RecordKind) × (kind_type k ≡ h.type_code) × (kind_subtype k ≡ h.subtype) × HasForm k w v

-- they are a value, or have no form and are opaque
abbrev pub IsValue : CommonHeader → Window → Value → Type 0
IsValue h w v = IsTyped h w v ⊎ (v ≡ Value.opaque w) × ((other : Value) → ¬ IsTyped h w other)
