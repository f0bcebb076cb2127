-- Tables and RIBs while they are written.
use Rattle.std.specs.Prelude.{◌≡◌, ℕ, ◌≤◌, Bool, Option, Some, None, List, [], ◌∷◌, ◌++◌, length}
use Rattle.std.proofs.Common.{refl, sym, ◌∙◌}
use Rattle.std.proofs.Props.{props}
use mathlib.Core.HLevel.{Σ_prop_path}
use Rattle.octseq_bgp.specs.Family.{afi_of}
use Rattle.octseq_bgp.specs.Prefix.{most_bits}
use Rattle.octseq_bgp.specs.Written.{written_prefix}
use Rattle.octseq_bgp.specs.declared.family.Afi.{Afi}
use Rattle.octseq_bgp.specs.declared.family.Afi.TheVariants as addresses
use Rattle.octseq_bgp.specs.declared.family.AfiSafiType.{AfiSafiType}
use Rattle.octseq_bgp.specs.declared.prefix.PathId.{PathId}
use Rattle.octseq_bgp.specs.declared.prefix.Prefix.{Prefix}
use Rattle.octseq_mrt.specs.Address.{Address}
use Rattle.octseq_mrt.specs.OneListed.{one_entry_parts}
use Rattle.octseq_mrt.specs.Peer.{Peer}
use Rattle.octseq_mrt.specs.Rib.{path_id_of}
use Rattle.octseq_mrt.specs.Written.{PeerTable, FitsPeerTable, table_head, peer_octets, list_octets}
use Rattle.octseq_mrt.specs.Written.{FitsFamily, FitsOptional}
use Rattle.octseq_mrt.specs.Written.{Route, Routes, FitsRoute, FitsRib, rib_head, route_octets}
use Rattle.octseq_mrt.specs.WrittenBack.{one_said, table_read_back, delimited_route, routes_read_back}
use Rattle.octseq_mrt.specs.WrittenBack.{one_table, one_routes}

-- one more peer
abbrev pub with_peer : PeerTable → Peer → PeerTable
with_peer t p = record t { peers = t.peers ++ p ∷ [] }

-- a RIB without entries: bits after the length of its prefix are 0
abbrev pub begun_rib : ℕ → Prefix → Routes
begun_rib sequence p = record {
  sequence = sequence;
  bits = p.len;
  prefix = (written_prefix p None).octets;
  entries = [];
}

-- one more entry
abbrev pub with_route : Routes → Route → Routes
with_route r e = record r { entries = r.entries ++ e ∷ [] }

-- an entry, with the octets of its attributes
abbrev pub pushed_route : ℕ → ℕ → Option PathId → List ℕ → Route
pushed_route peer_index time path_id attributes = record {
  peer_index = peer_index;
  originated_time = time;
  path_id = path_id_of path_id;
  attributes = attributes;
}

-- the number of bits of the addresses of a family
abbrev pub address_bits : AfiSafiType → ℕ
address_bits family = most_bits (afi_of family)

-- the prefix is one of the address family
abbrev pub FitsPrefix : AfiSafiType → Prefix → Type 0
FitsPrefix family p = (p.afi ≡ afi_of family) × (p.len ≤ most_bits p.afi)

-- ---- the octets, and the offset of the count

-- The content is a list after its head, and what it says fits. This is the offset of its count.
pub record IsListed {A : Type 0} (Fits : Type 0) (item : A → List ℕ) (head : List ℕ) (items : List A)
    (content : List ℕ) (at count : ℕ) : Type 0 where
  pub fits : Fits
  pub octets : content ≡ head ++ list_octets item items
  pub offset : at ≡ length head
  pub many : count ≡ length items
  pub few : length content ≤ 4294967295

-- it is a table
abbrev pub TableWritten : List ℕ → ℕ → ℕ → Type 0
TableWritten content at count =
    (t : PeerTable) × IsListed (FitsPeerTable t) peer_octets (table_head t) t.peers content at count

-- it is a RIB
abbrev pub RibWritten : ℕ → Bool → List ℕ → ℕ → ℕ → Type 0
RibWritten most paths content at count =
    (r : Routes) × IsListed (FitsRib most (FitsRoute paths) r) route_octets (rib_head r) r.entries content at count

-- ---- lemmas: proved below this line, so what the words mean is read above it

-- ---- of one only
fits_family_once : (afi : Afi) (a : Address) → IsProp (FitsFamily afi a)
fits_family_once addresses.Ipv4 (Address.ipv4 octets) = Prim.hlevel props
fits_family_once _ (Address.ipv6 segments) = Prim.hlevel props
fits_family_once _ _ = Prim.hlevel props

fits_optional_once : (has : Bool) (n : Option ℕ) → IsProp (FitsOptional has n)
fits_optional_once has None = Prim.hlevel props
fits_optional_once has (Some n) = Prim.hlevel props

-- two are the same if their octets are
pub same_table : {c d : List ℕ} {at offset m n : ℕ} (a : TableWritten c at m) (b : TableWritten d offset n) → c ≡ d
    → a.0 ≡ b.0
same_table a b same =
    one_said one_table table_read_back a.0 b.0 a.1.fits b.1.fits (sym a.1.octets ∙ same ∙ b.1.octets)

pub same_rib : {most : ℕ} {paths : Bool} {c d : List ℕ} {at offset m n : ℕ} (a : RibWritten most paths c at m)
    (b : RibWritten most paths d offset n) → c ≡ d → a.0 ≡ b.0
same_rib {most = most} {paths = paths} a b same =
    one_said (one_routes (one_entry_parts paths) most) (routes_read_back (delimited_route paths) most) a.0 b.0 a.1.fits
    b.1.fits (sym a.1.octets ∙ same ∙ b.1.octets)

pub table_once : (content : List ℕ) (at count : ℕ) → IsProp (TableWritten content at count)
table_once content at count a b = Σ_prop_path (λ t. Prim.hlevel (props, fits_family_once)) (same_table a b refl)

pub rib_once : (most : ℕ) (paths : Bool) (content : List ℕ) (at count : ℕ)
    → IsProp (RibWritten most paths content at count)
rib_once most paths content at count a b =
    Σ_prop_path (λ r. Prim.hlevel (props, fits_optional_once)) (same_rib a b refl)
