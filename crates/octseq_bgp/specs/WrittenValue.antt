-- The value of a path attribute to be written, without offsets, and its octets in a session: RFC 4271, 4.3, RFC 6793
-- (four-octet AS numbers), and the RFC of each type.
use Rattle.std.specs.Prelude.{◌≡◌, true, ℕ, ◌<◌, ◌≤◌, ◌^◌, Option, Some, None, List, [], ◌++◌, length, map}
use Rattle.std.specs.List.{AllByRecursion}
use Rattle.octseq.specs.Integer.{octets_be}
use Rattle.octseq_format.specs.Row.{row_octets}
use Rattle.octseq_bgp.specs.Family.{afi_number, safi_number, afi_of}
use Rattle.octseq_bgp.specs.ItemOctets.{large_octets, FitsLarge}
use Rattle.octseq_bgp.specs.Path.{asn_size}
use Rattle.octseq_bgp.specs.Session.{adds_path}
use Rattle.octseq_bgp.specs.Value.{Reach, Unreach, Value}
use Rattle.octseq_bgp.specs.WrittenPath.{WrittenSegment, path_octets, FitsPath, says_path}
use Rattle.octseq_bgp.specs.Prefix.{most_bits}
use Rattle.octseq_bgp.specs.ReadWritten.{nlri_says}
use Rattle.octseq_bgp.specs.Written.{PrefixFits, WrittenPrefix, hop_octets, prefix_octets}
use Rattle.octseq_bgp.specs.declared.attribute.attribute_type.AttributeType.{AttributeType}
use Rattle.octseq_bgp.specs.declared.attribute.attribute_type.AttributeType.TheVariants as kind
use Rattle.octseq_bgp.specs.declared.attribute.next_hop.NextHop.{NextHop}
use Rattle.octseq_bgp.specs.declared.attribute.next_hop.NextHop.TheVariants as hop
use Rattle.octseq_bgp.specs.declared.family.AfiSafiType.{AfiSafiType}
use Rattle.octseq_bgp.specs.declared.session.SessionConfig.{SessionConfig}

-- Reachable prefixes: a family, next hops, and the prefixes.
pub record WrittenReach : Type 0 where
  pub family : AfiSafiType
  pub next_hop : NextHop
  pub prefixes : List WrittenPrefix

-- Prefixes that are no longer reachable: a family and the prefixes.
pub record WrittenUnreach : Type 0 where
  pub family : AfiSafiType
  pub prefixes : List WrittenPrefix

-- A value: a number; the segments of a path; nothing; an AS number and an address; communities; or prefixes.
pub data WrittenValue : Type 0 where
  origin : ℕ → WrittenValue
  as_path : List WrittenSegment → WrittenValue
  next_hop : ℕ → WrittenValue
  multi_exit_disc : ℕ → WrittenValue
  local_pref : ℕ → WrittenValue
  atomic_aggregate : WrittenValue
  aggregator : ℕ × ℕ → WrittenValue
  communities : List ℕ → WrittenValue
  originator_id : ℕ → WrittenValue
  cluster_list : List ℕ → WrittenValue
  reach : WrittenReach → WrittenValue
  unreach : WrittenUnreach → WrittenValue
  extended_communities : List ℕ → WrittenValue
  as4_path : List WrittenSegment → WrittenValue
  as4_aggregator : ℕ × ℕ → WrittenValue
  large_communities : List (ℕ × (ℕ × ℕ)) → WrittenValue

-- its type
abbrev pub value_type : WrittenValue → AttributeType
value_type (WrittenValue.origin n) = kind.Origin
value_type (WrittenValue.as_path path) = kind.AsPath
value_type (WrittenValue.next_hop n) = kind.NextHop
value_type (WrittenValue.multi_exit_disc n) = kind.MultiExitDisc
value_type (WrittenValue.local_pref n) = kind.LocalPref
value_type WrittenValue.atomic_aggregate = kind.AtomicAggregate
value_type (WrittenValue.aggregator it) = kind.Aggregator
value_type (WrittenValue.communities row) = kind.Communities
value_type (WrittenValue.originator_id n) = kind.OriginatorId
value_type (WrittenValue.cluster_list row) = kind.ClusterList
value_type (WrittenValue.reach it) = kind.MpReachNlri
value_type (WrittenValue.unreach it) = kind.MpUnreachNlri
value_type (WrittenValue.extended_communities row) = kind.ExtendedCommunities
value_type (WrittenValue.as4_path path) = kind.As4Path
value_type (WrittenValue.as4_aggregator it) = kind.As4Aggregator
value_type (WrittenValue.large_communities row) = kind.LargeCommunities

-- ---- its octets

-- AFI, SAFI, next hops after their length, a reserved octet, and the prefixes: RFC 4760, 3
abbrev pub reach_octets : WrittenReach → List ℕ
reach_octets r = octets_be 2 (afi_number r.family) ++ (octets_be 1 (safi_number r.family)
    ++ (octets_be 1 (length (hop_octets r.next_hop)) ++ (hop_octets r.next_hop
    ++ (octets_be 1 0 ++ row_octets prefix_octets r.prefixes))))

-- AFI, SAFI and the prefixes: RFC 4760, 4
abbrev pub unreach_octets : WrittenUnreach → List ℕ
unreach_octets r = octets_be 2 (afi_number r.family) ++ (octets_be 1 (safi_number r.family)
    ++ row_octets prefix_octets r.prefixes)

-- an AS number of k octets, and an address
abbrev pub aggregator_octets : ℕ → ℕ × ℕ → List ℕ
aggregator_octets k it = octets_be k it.0 ++ octets_be 4 it.1

-- AS numbers have four octets, in AS_PATH and AGGREGATOR two where the session isn't of four.
abbrev pub value_octets : SessionConfig → WrittenValue → List ℕ
value_octets s (WrittenValue.origin n) = octets_be 1 n
value_octets s (WrittenValue.as_path path) = path_octets s.four_octet_asn path
value_octets s (WrittenValue.next_hop n) = octets_be 4 n
value_octets s (WrittenValue.multi_exit_disc n) = octets_be 4 n
value_octets s (WrittenValue.local_pref n) = octets_be 4 n
value_octets s WrittenValue.atomic_aggregate = []
value_octets s (WrittenValue.aggregator it) = aggregator_octets (asn_size s.four_octet_asn) it
value_octets s (WrittenValue.communities row) = row_octets (octets_be 4) row
value_octets s (WrittenValue.originator_id n) = octets_be 4 n
value_octets s (WrittenValue.cluster_list row) = row_octets (octets_be 4) row
value_octets s (WrittenValue.reach it) = reach_octets it
value_octets s (WrittenValue.unreach it) = unreach_octets it
value_octets s (WrittenValue.extended_communities row) = row_octets (octets_be 8) row
value_octets s (WrittenValue.as4_path path) = path_octets true path
value_octets s (WrittenValue.as4_aggregator it) = aggregator_octets 4 it
value_octets s (WrittenValue.large_communities row) = row_octets large_octets row

-- ---- which values have octets

-- next hops of a family: an IPv4 address is one of IPv4 prefixes alone
abbrev pub FitsHop : AfiSafiType → NextHop → Type 0
FitsHop f (hop.Ipv4 a) = (afi_number f ≡ 1) × (length a ≡ 4)
FitsHop f (hop.Ipv6 a) = length a ≡ 16
FitsHop f (hop.Ipv6LinkLocal a b) = (length a ≡ 16) × (length b ≡ 16)

-- prefixes of a family
abbrev pub FitPrefixes : SessionConfig → AfiSafiType → List WrittenPrefix → Type 0
FitPrefixes s family row = AllByRecursion (PrefixFits (most_bits (afi_of family)) (adds_path s.add_path family)) row

-- an AS number that fits k octets, and an address
abbrev pub FitsAggregator : ℕ → ℕ × ℕ → Type 0
FitsAggregator k it = (it.0 < 256 ^ k) × (it.1 < 256 ^ 4)

-- one or more items
abbrev pub SomeFit : {A : Type 0} → (A → Type 0) → List A → Type 0
SomeFit Fits row = (1 ≤ length row) × AllByRecursion Fits row

-- a number that fits k octets
abbrev pub FitsIn : ℕ → ℕ → Type 0
FitsIn k n = n < 256 ^ k

-- its parts fit their octets
abbrev pub FitsForm : SessionConfig → WrittenValue → Type 0
FitsForm s (WrittenValue.origin n) = n ≤ 2
FitsForm s (WrittenValue.as_path path) = FitsPath s.four_octet_asn path
FitsForm s (WrittenValue.next_hop n) = FitsIn 4 n
FitsForm s (WrittenValue.multi_exit_disc n) = FitsIn 4 n
FitsForm s (WrittenValue.local_pref n) = FitsIn 4 n
FitsForm s WrittenValue.atomic_aggregate = Unit {0}
FitsForm s (WrittenValue.aggregator it) = FitsAggregator (asn_size s.four_octet_asn) it
FitsForm s (WrittenValue.communities row) = SomeFit (FitsIn 4) row
FitsForm s (WrittenValue.originator_id n) = FitsIn 4 n
FitsForm s (WrittenValue.cluster_list row) = SomeFit (FitsIn 4) row
FitsForm s (WrittenValue.reach it) = FitsHop it.family it.next_hop × FitPrefixes s it.family it.prefixes
FitsForm s (WrittenValue.unreach it) = FitPrefixes s it.family it.prefixes
FitsForm s (WrittenValue.extended_communities row) = SomeFit (FitsIn 8) row
FitsForm s (WrittenValue.as4_path path) = FitsPath true path
FitsForm s (WrittenValue.as4_aggregator it) = FitsAggregator 4 it
FitsForm s (WrittenValue.large_communities row) = SomeFit FitsLarge row

-- Its parts fit their octets, and its octets the two octets of a length.
pub record FitsValue (s : SessionConfig) (v : WrittenValue) : Type 0 where
  pub form : FitsForm s v
  pub short : length (value_octets s v) ≤ 65535

-- ---- what a value that was read says, unless it is opaque

abbrev pub says_reach : Reach → WrittenReach
says_reach r = record { family = r.family; next_hop = r.next_hop; prefixes = map nlri_says r.prefixes }

abbrev pub says_unreach : Unreach → WrittenUnreach
says_unreach r = record { family = r.family; prefixes = map nlri_says r.prefixes }

abbrev pub says_value : Value → Option WrittenValue
says_value (Value.origin n) = Some (WrittenValue.origin n)
says_value (Value.as_path path) = Some (WrittenValue.as_path (says_path path))
says_value (Value.next_hop n) = Some (WrittenValue.next_hop n)
says_value (Value.multi_exit_disc n) = Some (WrittenValue.multi_exit_disc n)
says_value (Value.local_pref n) = Some (WrittenValue.local_pref n)
says_value Value.atomic_aggregate = Some WrittenValue.atomic_aggregate
says_value (Value.aggregator it) = Some (WrittenValue.aggregator it)
says_value (Value.communities row) = Some (WrittenValue.communities row)
says_value (Value.originator_id n) = Some (WrittenValue.originator_id n)
says_value (Value.cluster_list row) = Some (WrittenValue.cluster_list row)
says_value (Value.reach it) = Some (WrittenValue.reach (says_reach it))
says_value (Value.unreach it) = Some (WrittenValue.unreach (says_unreach it))
says_value (Value.extended_communities row) = Some (WrittenValue.extended_communities row)
says_value (Value.as4_path path) = Some (WrittenValue.as4_path (says_path path))
says_value (Value.as4_aggregator it) = Some (WrittenValue.as4_aggregator it)
says_value (Value.large_communities row) = Some (WrittenValue.large_communities row)
says_value (Value.opaque octets) = None
