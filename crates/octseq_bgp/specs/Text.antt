-- The text of numbers, communities, families and prefixes: RFC 5396, 2 (AS numbers), RFC 8092, 4 (large communities),
-- and RFC 5952 (IPv6).
use Rattle.std.specs.Prelude.{ℕ, ◌/◌, ◌%◌, List, ◌++◌, take, codes}
use Rattle.std.specs.Fmt.{decimal}
use Rattle.std.specs.Net.Text.{ipv4_text}
use Rattle.octseq.specs.OctetsText.{ipv6_address_text}
use Rattle.octseq_bgp.specs.declared.attribute.attribute_type.AttributeType.{AttributeType}
use Rattle.octseq_bgp.specs.declared.attribute.attribute_type.AttributeType.TheVariants as kind
use Rattle.octseq_bgp.specs.declared.family.Afi.{Afi}
use Rattle.octseq_bgp.specs.declared.family.Afi.TheVariants as addresses
use Rattle.octseq_bgp.specs.declared.family.AfiSafiType.{AfiSafiType}
use Rattle.octseq_bgp.specs.declared.family.AfiSafiType.TheVariants as family
use Rattle.octseq_bgp.specs.declared.attribute.path.SegmentType.{SegmentType}
use Rattle.octseq_bgp.specs.declared.attribute.path.SegmentType.TheVariants as segment

-- a community: its upper and its lower 16 bits
abbrev pub community_text : ℕ → List ℕ
community_text n = decimal (n / 65536) ++ codes ":" ++ decimal (n % 65536)

-- a large community: three numbers
abbrev pub large_text : ℕ → ℕ → ℕ → List ℕ
large_text a b c = decimal a ++ codes ":" ++ decimal b ++ codes ":" ++ decimal c

-- a family
abbrev pub family_text : AfiSafiType → List ℕ
family_text family.Ipv4Unicast = codes "IPv4/unicast"
family_text family.Ipv4Multicast = codes "IPv4/multicast"
family_text family.Ipv6Unicast = codes "IPv6/unicast"
family_text family.Ipv6Multicast = codes "IPv6/multicast"

-- a type of segments
abbrev pub segment_text : SegmentType → List ℕ
segment_text segment.Set = codes "set"
segment_text segment.Sequence = codes "sequence"
segment_text segment.ConfedSequence = codes "confed-sequence"
segment_text segment.ConfedSet = codes "confed-set"

-- a type of attributes
abbrev pub type_text : AttributeType → List ℕ
type_text kind.Origin = codes "ORIGIN"
type_text kind.AsPath = codes "AS_PATH"
type_text kind.NextHop = codes "NEXT_HOP"
type_text kind.MultiExitDisc = codes "MULTI_EXIT_DISC"
type_text kind.LocalPref = codes "LOCAL_PREF"
type_text kind.AtomicAggregate = codes "ATOMIC_AGGREGATE"
type_text kind.Aggregator = codes "AGGREGATOR"
type_text kind.Communities = codes "COMMUNITIES"
type_text kind.OriginatorId = codes "ORIGINATOR_ID"
type_text kind.ClusterList = codes "CLUSTER_LIST"
type_text kind.MpReachNlri = codes "MP_REACH_NLRI"
type_text kind.MpUnreachNlri = codes "MP_UNREACH_NLRI"
type_text kind.ExtendedCommunities = codes "EXTENDED_COMMUNITIES"
type_text kind.As4Path = codes "AS4_PATH"
type_text kind.As4Aggregator = codes "AS4_AGGREGATOR"
type_text kind.LargeCommunities = codes "LARGE_COMMUNITIES"

-- an address: for IPv4 its first four octets
unfoldable pub address_text : Afi → List ℕ → List ℕ
address_text addresses.Ipv4 octets = ipv4_text (take 4 octets)
address_text addresses.Ipv6 octets = ipv6_address_text octets

-- a prefix: its address and its length
abbrev pub prefix_text : Afi → ℕ → List ℕ → List ℕ
prefix_text afi bits octets = address_text afi octets ++ codes "/" ++ decimal bits
