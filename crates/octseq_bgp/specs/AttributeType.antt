-- The numbers of the types of path attributes: RFC 4271, 4.3, and the RFCs that added more.
use Rattle.std.specs.Prelude.{ℕ}
use Rattle.octseq_bgp.specs.declared.attribute.attribute_type.AttributeType.{AttributeType}
use Rattle.octseq_bgp.specs.declared.attribute.attribute_type.AttributeType.TheVariants as kind

-- the number of a type
abbrev pub type_number : AttributeType → ℕ
type_number kind.Origin = 1
type_number kind.AsPath = 2
type_number kind.NextHop = 3
type_number kind.MultiExitDisc = 4
type_number kind.LocalPref = 5
type_number kind.AtomicAggregate = 6
type_number kind.Aggregator = 7
type_number kind.Communities = 8
type_number kind.OriginatorId = 9
type_number kind.ClusterList = 10
type_number kind.MpReachNlri = 14
type_number kind.MpUnreachNlri = 15
type_number kind.ExtendedCommunities = 16
type_number kind.As4Path = 17
type_number kind.As4Aggregator = 18
type_number kind.LargeCommunities = 32

-- the two upper flags of a type, optional and transitive: RFC 4271, 4.3
abbrev pub type_flags : AttributeType → ℕ
type_flags kind.Origin = 1
type_flags kind.AsPath = 1
type_flags kind.NextHop = 1
type_flags kind.MultiExitDisc = 2
type_flags kind.LocalPref = 1
type_flags kind.AtomicAggregate = 1
type_flags kind.Aggregator = 3
type_flags kind.Communities = 3
type_flags kind.OriginatorId = 2
type_flags kind.ClusterList = 2
type_flags kind.MpReachNlri = 2
type_flags kind.MpUnreachNlri = 2
type_flags kind.ExtendedCommunities = 3
type_flags kind.As4Path = 3
type_flags kind.As4Aggregator = 3
type_flags kind.LargeCommunities = 3
