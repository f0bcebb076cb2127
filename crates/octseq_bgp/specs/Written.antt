-- What an UPDATE says, without the offsets of its parts, and its octets as a function of it: RFC 4271, 4.3.
use Rattle.std.specs.Prelude.{◌≡◌, Bool, true, false, ℕ, ◌+◌, ◌*◌, ◌^◌, ◌<◌, ◌≤◌, Option, Some, None, List, [], ◌∷◌}
use Rattle.std.specs.Prelude.{◌++◌}
use Rattle.std.specs.Prelude.{length, nat_le, if◌then◌else◌}
use Rattle.std.specs.List.{AllByRecursion, flat_map}
use Rattle.std.specs.Option.{is_some}
use Rattle.octseq.specs.Integer.{octets_be}
use Rattle.octseq.specs.Part.{part_of}
use Rattle.octseq_bgp.specs.AttributeType.{type_number, type_flags}
use Rattle.octseq_bgp.specs.Composed.{message_octets}
use Rattle.octseq_bgp.specs.Family.{afi_number, safi_number, afi_of}
use Rattle.octseq_bgp.specs.Parts.{octets_of_bits, is_extended}
use Rattle.octseq_bgp.specs.Prefix.{most_bits}
use Rattle.octseq_bgp.specs.PrefixValue.{address_from}
use Rattle.octseq_bgp.specs.Session.{adds_path}
use Rattle.octseq_bgp.specs.declared.attribute.attribute_type.AttributeType.{AttributeType}
use Rattle.octseq_bgp.specs.declared.attribute.next_hop.NextHop.{NextHop}
use Rattle.octseq_bgp.specs.declared.attribute.next_hop.NextHop.TheVariants as hop
use Rattle.octseq_bgp.specs.declared.family.AfiSafiType.{AfiSafiType}
use Rattle.octseq_bgp.specs.declared.family.AfiSafiType.TheVariants as family
use Rattle.octseq_bgp.specs.declared.prefix.PathId.{PathId}
use Rattle.octseq_bgp.specs.declared.prefix.Prefix.{Prefix}
use Rattle.octseq_bgp.specs.declared.session.SessionConfig.{SessionConfig}

-- A prefix: its path id, if it has one; its length in bits; and as many octets as these need.
pub record WrittenPrefix : Type 0 where
  pub path_id : Option PathId
  pub bits : ℕ
  pub octets : List ℕ

-- A path attribute: its flags, its type, and its octets.
pub record WrittenAttribute : Type 0 where
  pub flags : ℕ
  pub kind : ℕ
  pub octets : List ℕ

-- An UPDATE: its three lists.
pub record WrittenUpdate : Type 0 where
  pub withdrawn : List WrittenPrefix
  pub attributes : List WrittenAttribute
  pub announced : List WrittenPrefix

-- ---- its octets

-- a path id, where there is one: RFC 7911, 3
abbrev pub path_id_octets : Option PathId → List ℕ
path_id_octets None = []
path_id_octets (Some id) = octets_be 4 id.0

-- a prefix: its path id, its length in bits, and its octets
abbrev pub prefix_octets : WrittenPrefix → List ℕ
prefix_octets p = path_id_octets p.path_id ++ (octets_be 1 p.bits ++ p.octets)

-- prefixes, one after another
abbrev pub prefixes_octets : List WrittenPrefix → List ℕ
prefixes_octets prefixes = flat_map prefix_octets prefixes

-- the number of octets that the length of an attribute has, by its flags
abbrev pub length_width : ℕ → ℕ
length_width flags = if is_extended flags then 2 else 1

-- what an attribute has before its octets: its flags, its type, and their length
abbrev pub head_octets : (flags kind length : ℕ) → List ℕ
head_octets flags kind length = octets_be 1 flags ++ (octets_be 1 kind ++ octets_be (length_width flags) length)

-- an attribute: its flags, its type, and its octets after their length
abbrev pub attribute_octets : WrittenAttribute → List ℕ
attribute_octets a = octets_be 1 a.flags ++ (octets_be 1 a.kind ++ part_of (length_width a.flags) a.octets)

-- attributes, one after another
abbrev pub attributes_octets : List WrittenAttribute → List ℕ
attributes_octets attributes = flat_map attribute_octets attributes

-- what follows the header of an UPDATE: withdrawn routes after their length, attributes after theirs, and prefixes
abbrev pub body_octets : (withdrawn attributes announced : List ℕ) → List ℕ
body_octets withdrawn attributes announced = part_of 2 withdrawn ++ (part_of 2 attributes ++ announced)

abbrev pub update_body : WrittenUpdate → List ℕ
update_body u = body_octets (prefixes_octets u.withdrawn) (attributes_octets u.attributes) (prefixes_octets u.announced)

-- an UPDATE, with its header
abbrev pub update_octets : WrittenUpdate → List ℕ
update_octets u = message_octets 2 (update_body u)

-- ---- what fits

-- a path id where there are path ids, and none where there are none
abbrev pub PathFits : Bool → Option PathId → Type 0
PathFits true (Some id) = id.0 < 256 ^ 4
PathFits false None = Unit {0}
PathFits _ _ = ⊥

-- A prefix of at most `most` bits, with a path id or without.
pub record PrefixFits (most : ℕ) (paths : Bool) (p : WrittenPrefix) : Type 0 where
  pub path_id : PathFits paths p.path_id
  pub bits : p.bits ≤ most
  pub octets : length p.octets ≡ octets_of_bits p.bits

-- An attribute whose octets are not more than its length can say.
pub record AttributeFits (a : WrittenAttribute) : Type 0 where
  pub flags : a.flags < 256
  pub kind : a.kind < 256
  pub octets : length a.octets < 256 ^ length_width a.flags

-- the prefixes of an UPDATE are IPv4 unicast
abbrev pub UnicastFits : SessionConfig → List WrittenPrefix → Type 0
UnicastFits s prefixes = AllByRecursion (PrefixFits 32 (adds_path s.add_path family.Ipv4Unicast)) prefixes

-- the greatest length of an UPDATE: RFC 4271, 4.1, and RFC 8654, 3
abbrev pub longest : SessionConfig → ℕ
longest s = if s.extended_message then 65535 else 4096

-- An UPDATE of the session.
pub record UpdateFits (s : SessionConfig) (u : WrittenUpdate) : Type 0 where
  pub withdrawn : UnicastFits s u.withdrawn
  pub attributes : AllByRecursion AttributeFits u.attributes
  pub announced : UnicastFits s u.announced
  pub short : length (update_octets u) ≤ longest s

-- ---- what callers give

-- the prefix that is written for a value: as many octets of its address as its length needs, with the bits after it
-- cleared
abbrev pub written_prefix : Prefix → Option PathId → WrittenPrefix
written_prefix p path_id = record {
  path_id = path_id;
  bits = p.len;
  octets = address_from (octets_of_bits p.len) 0 p.len p.address;
}

-- A prefix is one of a family, and has a path id exactly if the session has them for that family.
pub record IsPrefixOf (s : SessionConfig) (f : AfiSafiType) (p : Prefix) (path_id : Option PathId) : Type 0 where
  pub afi : p.afi ≡ afi_of f
  pub bits : p.len ≤ most_bits (afi_of f)
  pub path : is_some path_id ≡ adds_path s.add_path f

-- the flags of an attribute of a type with n octets: those of the type, and 16 exactly for more than 255 octets
abbrev pub flags_for : AttributeType → ℕ → ℕ
flags_for t n = 64 * type_flags t + (if nat_le n 255 then 0 else 16)

-- an attribute of a type
abbrev pub typed_attribute : AttributeType → List ℕ → WrittenAttribute
typed_attribute t octets = record { flags = flags_for t (length octets); kind = type_number t; octets = octets }

-- the octets of next hops: RFC 4760, 3, and RFC 2545, 3
abbrev pub hop_octets : NextHop → List ℕ
hop_octets (hop.Ipv4 address) = address
hop_octets (hop.Ipv6 address) = address
hop_octets (hop.Ipv6LinkLocal address link_local) = address ++ link_local

-- next hops that a family may have: an IPv4 address only if it is one of IPv4
abbrev pub IsHopOf : AfiSafiType → NextHop → Type 0
IsHopOf f (hop.Ipv4 address) = afi_number f ≡ 1
IsHopOf f (hop.Ipv6 address) = Unit {0}
IsHopOf f (hop.Ipv6LinkLocal address link_local) = Unit {0}

-- an MP_REACH_NLRI before its prefixes: AFI, SAFI, next hops after their length, and a reserved octet: RFC 4760, 3
abbrev pub reach_front : AfiSafiType → NextHop → List ℕ
reach_front f h = octets_be 2 (afi_number f) ++ (octets_be 1 (safi_number f) ++ (part_of 1 (hop_octets h) ++ 0 ∷ []))

-- an MP_UNREACH_NLRI before its prefixes: AFI and SAFI: RFC 4760, 4
abbrev pub unreach_front : AfiSafiType → List ℕ
unreach_front f = octets_be 2 (afi_number f) ++ octets_be 1 (safi_number f)
