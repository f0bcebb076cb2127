-- What the RIB of a prefix says, and the attributes of its entries: RFC 6396, 4.3.2 and 4.3.4, and RFC 8050, 4 (path
-- ids).
use Rattle.std.specs.Prelude.{◌≡◌, ◌⊎◌, Bool, true, false, ℕ, Option, Some, None, List}
use Rattle.octseq.specs.Window.{Window, left}
use Rattle.octseq_format.specs.Counted.{Times}
use Rattle.octseq_format.specs.Laws.{Relation}
use Rattle.octseq_format.specs.Pair.{◌then◌}
use Rattle.octseq_bgp.specs.Parts.{Attribute, IsAttribute, IsNumber, IsCounted, IsPrefix}
use Rattle.octseq_bgp.specs.Family.{afi_of}
use Rattle.octseq_bgp.specs.Fills.{Whole, Fills}
use Rattle.octseq_bgp.specs.Value as bgp
use Rattle.octseq_bgp.specs.declared.family.Afi.{Afi}
use Rattle.octseq_bgp.specs.declared.family.AfiSafiType.{AfiSafiType}
use Rattle.octseq_bgp.specs.declared.prefix.PathId.{PathId}
use Rattle.octseq_bgp.specs.declared.session.SessionConfig.{SessionConfig}
use Rattle.octseq_bgp.specs.Prefix.{most_bits}
use Rattle.octseq_mrt.specs.Address.{IsNumberIf}
use Rattle.octseq_mrt.specs.Bgp4Mp.{all_paths}

-- the number of a path id, if there is one
abbrev pub path_id_of : Option PathId → Option ℕ
path_id_of (Some id) = Some id.0
path_id_of None = None

pub record RibEntry : Type 0 where
  pub peer_index : ℕ
  pub originated_time : ℕ
  pub path_id : Option ℕ
  pub attributes : List Attribute

-- the number of a peer, seconds, a path id if the record has them, and octets after their length
abbrev pub HasEntryParts : Bool → Relation (ℕ × (ℕ × (Option ℕ × Window)))
HasEntryParts paths = IsNumber 2 then IsNumber 4 then IsNumberIf paths then IsCounted 2

-- A RIB entry: path attributes fill those octets.
pub record IsRibEntry (paths : Bool) (w : Window) (e : RibEntry) (v : Window) : Type 0 where
  pub octets : Window
  pub parts : HasEntryParts paths w (e.peer_index, (e.originated_time, (e.path_id, octets))) v
  pub attributes : Fills IsAttribute octets e.attributes

-- A RIB: its address family, a sequence number, a prefix (its length in bits and the window of its octets), and the
-- entries.
pub record Rib : Type 0 where
  pub family : AfiSafiType
  pub sequence : ℕ
  pub prefix : ℕ × Window
  pub entries : List RibEntry

-- a sequence number, a prefix, and the number of entries
abbrev pub IsRibHead : Afi → Relation (ℕ × ((ℕ × Window) × ℕ))
IsRibHead afi = IsNumber 4 then IsPrefix (most_bits afi) then IsNumber 2

-- a sequence number, a prefix, and as many entries as a count says
abbrev pub IsRib : AfiSafiType → Bool → Window → Rib → Type 0
IsRib f paths w r = (r.family ≡ f)
    × Whole (IsNumber 4 then IsPrefix (most_bits (afi_of f)) then Times 2 (IsRibEntry paths)) w
    (r.sequence, (r.prefix, r.entries))

-- ---- attributes of RIB entries

-- the session in which they are read: AS numbers have four octets
abbrev pub rib_session : SessionConfig
rib_session = record { four_octet_asn = true; add_path = all_paths false; extended_message = false }

-- a number of octets that next hops may have
abbrev pub is_next_hop_size : ℕ → Type 0
is_next_hop_size size = (size ≡ 4) ⊎ (size ≡ 16) ⊎ (size ≡ 32)

-- The octets of an MP_REACH_NLRI are next hops after their length, and nothing else: RFC 6396, 4.3.4.
abbrev pub IsNextHopAlone : ℕ → Window → Window → Type 0
IsNextHopAlone number w inside = (number ≡ 14) × Whole (IsCounted 1) w inside × is_next_hop_size (left inside)

-- The value of an attribute of a RIB entry: next hops only, or the value as in a message.
pub data RibValue : Type 0 where
  next_hop : Window → RibValue
  value : bgp.Value → RibValue

abbrev pub IsRibValue : ℕ → Window → RibValue → Type 0
IsRibValue number w (RibValue.next_hop inside) = IsNextHopAlone number w inside
IsRibValue number w (RibValue.value v) =
    bgp.IsValue rib_session number w v × ((inside : Window) → ¬ IsNextHopAlone number w inside)
