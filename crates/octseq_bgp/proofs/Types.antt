-- The numbers of types differ.
use Rattle.std.proofs.Common.{◌≡◌, ℕ, if◌then◌else◌, nat_eq, refl, sym, ap, ◌∙◌}
use Rattle.octseq_bgp.specs.AttributeType.{type_number}
use Rattle.octseq_bgp.specs.declared.attribute.attribute_type.AttributeType.{AttributeType}
use Rattle.octseq_bgp.specs.declared.attribute.attribute_type.AttributeType.TheVariants as kind

abbrev type_of : ℕ → AttributeType
type_of n = if nat_eq n 1 then kind.Origin
    else if nat_eq n 2 then kind.AsPath
    else if nat_eq n 3 then kind.NextHop
    else if nat_eq n 4 then kind.MultiExitDisc
    else if nat_eq n 5 then kind.LocalPref
    else if nat_eq n 6 then kind.AtomicAggregate
    else if nat_eq n 7 then kind.Aggregator
    else if nat_eq n 8 then kind.Communities
    else if nat_eq n 9 then kind.OriginatorId
    else if nat_eq n 10 then kind.ClusterList
    else if nat_eq n 14 then kind.MpReachNlri
    else if nat_eq n 15 then kind.MpUnreachNlri
    else if nat_eq n 16 then kind.ExtendedCommunities
    else if nat_eq n 17 then kind.As4Path
    else if nat_eq n 18 then kind.As4Aggregator
    else kind.LargeCommunities

type_again : (t : AttributeType) → type_of (type_number t) ≡ t
type_again kind.Origin = refl
type_again kind.AsPath = refl
type_again kind.NextHop = refl
type_again kind.MultiExitDisc = refl
type_again kind.LocalPref = refl
type_again kind.AtomicAggregate = refl
type_again kind.Aggregator = refl
type_again kind.Communities = refl
type_again kind.OriginatorId = refl
type_again kind.ClusterList = refl
type_again kind.MpReachNlri = refl
type_again kind.MpUnreachNlri = refl
type_again kind.ExtendedCommunities = refl
type_again kind.As4Path = refl
type_again kind.As4Aggregator = refl
type_again kind.LargeCommunities = refl

pub one_type : (s t : AttributeType) → type_number s ≡ type_number t → s ≡ t
one_type s t same = sym (type_again s) ∙ ap type_of same ∙ type_again t
