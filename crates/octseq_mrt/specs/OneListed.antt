-- At most one peer, and one RIB entry, is at an offset, with one end, and it takes at least one octet.
use Rattle.std.specs.Prelude.{ℕ, Bool, Option, List, refl}
use Rattle.std.proofs.Common.{ap, ◌∙◌, subst, arith}
use Rattle.std.specs.Net.Addr.{segments_of}
use Rattle.octseq.specs.Window.{Window}
use Rattle.octseq_format.specs.Conditional.{one_if, onward_if}
use Rattle.octseq_format.specs.Counted.{onward_counted}
use Rattle.octseq_format.specs.Family.{any_onward}
use Rattle.octseq_format.specs.Fixed.{one_fixed, onward_fixed}
use Rattle.octseq_format.specs.Laws.{IsOne, IsOnward, IsMoving, one_by}
use Rattle.octseq_format.specs.Pair.{◌one_then◌, ◌onward_then◌}
use Rattle.octseq_format.specs.Rest.{IsRest}
use Rattle.octseq_bgp.specs.Parts.{Attribute, IsAttribute, IsNumber}
use Rattle.octseq_bgp.specs.Fills.{Fills}
use Rattle.octseq_bgp.specs.OneParts.{one_number, one_octets, one_deciding, one_attribute}
use Rattle.octseq_bgp.specs.Path.{asn_size}
use Rattle.octseq_bgp.specs.declared.family.Afi.{Afi}
use Rattle.octseq_bgp.specs.declared.family.Afi.TheVariants as addresses
use Rattle.octseq_bgp.proofs.Moves.{onward_number, onward_deciding, attribute_moves}
use Rattle.octseq_bgp.proofs.Wholes.{one_fills}
use Rattle.octseq_mrt.specs.Address.{Address, IsAddress, IsNumberIf}
use Rattle.octseq_mrt.specs.Peer.{Peer, IsPeer, peer_family, has_wide_asn}
use Rattle.octseq_mrt.specs.Rib.{RibEntry, HasEntryParts, IsRibEntry}

-- ---- peers
abbrev pub peer_parts : Peer → ℕ × (ℕ × (Address × ℕ))
peer_parts p = (p.peer_type, (p.bgp_id, (p.addr, p.asn)))

abbrev pub peer_from : ℕ × (ℕ × (Address × ℕ)) → Peer
peer_from parts = record { peer_type = parts.0; bgp_id = parts.1.0; addr = parts.1.1.0; asn = parts.1.1.1 }

-- the parts of an entry, and the window of its attributes
abbrev pub entry_parts : RibEntry → Window → ℕ × (ℕ × (Option ℕ × Window))
entry_parts e octets = (e.peer_index, (e.originated_time, (e.path_id, octets)))

-- an entry of these parts, with these attributes
abbrev pub entry_from : ℕ × (ℕ × (Option ℕ × Window)) → List Attribute → RibEntry
entry_from p row = record { peer_index = p.0; originated_time = p.1.0; path_id = p.1.1.0; attributes = row }

-- ---- lemmas: proved below this line, so what the words mean is read above it

-- ---- addresses and optional numbers
pub one_address : (afi : Afi) → IsOne (IsAddress afi)
one_address addresses.Ipv4 = one_fixed 4 Address.ipv4
one_address addresses.Ipv6 = one_fixed 16 (λ octets. Address.ipv6 (segments_of octets))

onward_address : (afi : Afi) → IsOnward 0 (IsAddress afi)
onward_address addresses.Ipv4 = any_onward (onward_fixed 4 Address.ipv4)
onward_address addresses.Ipv6 = any_onward (onward_fixed 16 (λ octets. Address.ipv6 (segments_of octets)))

pub one_optional : (has : Bool) → IsOne (IsNumberIf has)
one_optional has = one_if (λ _. has) (IsNumber 4) (one_number 4) 0

pub onward_optional : (has : Bool) → IsOnward 0 (IsNumberIf has)
onward_optional has = onward_if (λ _. has) (IsNumber 4) (onward_number 4) 0

pub one_peer : IsOne IsPeer
one_peer = one_by peer_parts peer_from (λ _. refl) (one_deciding (one_number 1) (λ kind. one_number 4
    one_then one_address (peer_family kind) one_then one_number (asn_size (has_wide_asn kind))))

pub peer_moves : IsMoving IsPeer
peer_moves = record {
  on = λ w p v is.
      let less = (onward_deciding (onward_number 1) (λ (kind : ℕ). any_onward (onward_number 4
      onward_then onward_address (peer_family kind) onward_then onward_number (asn_size (has_wide_asn kind))))).less
      w (peer_parts p) v is in
      omega (arith, less);
}

-- ---- entries
pub one_entry_parts : (paths : Bool) → IsOne (HasEntryParts paths)
one_entry_parts paths = one_number 2 one_then one_number 4 one_then one_optional paths one_then one_octets 2

pub one_rib_entry : (paths : Bool) → IsOne (IsRibEntry paths)
one_rib_entry paths = record {
  same = λ w a b u v is other.
      let all = entry_parts b other.octets in
      let parts = (one_entry_parts paths).same w (entry_parts a is.octets) all u v is.parts other.parts in
      let row = one_fills one_attribute attribute_moves other.octets a.attributes b.attributes
      (subst (λ p. Fills IsAttribute p.1.1.1 a.attributes) parts.0 is.attributes) other.attributes in
      (ap (λ p. entry_from p a.attributes) parts.0 ∙ ap (entry_from all) row, parts.1);
}

pub rib_entry_moves : (paths : Bool) → IsMoving (IsRibEntry paths)
rib_entry_moves paths = record {
  on = λ w e v is.
      let less = (onward_number 2 onward_then onward_number 4 onward_then onward_optional paths
      onward_then onward_counted 2 0 IsRest).less w (entry_parts e is.octets) v is.parts in
      omega (arith, less);
}
