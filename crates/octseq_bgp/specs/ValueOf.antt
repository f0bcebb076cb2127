-- What contracts see of the values of path attributes.
use Rattle.octseq.specs.declared.AsOctets.{Ghosts}
use Rattle.octseq.specs.Parser.{window}
use Rattle.octseq_bgp.specs.Items.{items_left}
use Rattle.octseq_bgp.specs.Lists.{prefixes_left}
use Rattle.octseq_bgp.specs.PathOf.{path_of}
use Rattle.octseq_bgp.specs.Value.{Reach, Unreach, Value}
use Rattle.octseq_bgp.specs.declared.attribute.reach.MpReachNlri.{MpReachNlri}
use Rattle.octseq_bgp.specs.declared.attribute.reach.MpUnreachNlri.{MpUnreachNlri}
use Rattle.octseq_bgp.specs.declared.attribute.value.AttributeValue.{AttributeValue}
use Rattle.octseq_bgp.specs.declared.attribute.value.AttributeValue.TheVariants as kind

-- reachable prefixes
abbrev pub reach_of : {R : Type 0} {g : Ghosts R} → MpReachNlri R g → Reach
reach_of r = record { family = r.family; next_hop = r.next_hop; prefixes = prefixes_left r.prefixes }

-- prefixes that are no longer reachable
abbrev pub unreach_of : {R : Type 0} {g : Ghosts R} → MpUnreachNlri R g → Unreach
unreach_of r = record { family = r.family; prefixes = prefixes_left r.prefixes }

-- a value
abbrev pub value_of : {R : Type 0} {g : Ghosts R} → AttributeValue R g → Value
value_of (kind.Origin n) = Value.origin n
value_of (kind.AsPath path) = Value.as_path (path_of path)
value_of (kind.NextHop n) = Value.next_hop n
value_of (kind.MultiExitDisc n) = Value.multi_exit_disc n
value_of (kind.LocalPref n) = Value.local_pref n
value_of kind.AtomicAggregate = Value.atomic_aggregate
value_of (kind.Aggregator it) = Value.aggregator (it.asn.0, it.address)
value_of (kind.Communities items) = Value.communities (items_left items)
value_of (kind.OriginatorId n) = Value.originator_id n
value_of (kind.ClusterList items) = Value.cluster_list (items_left items)
value_of (kind.MpReachNlri it) = Value.reach (reach_of it)
value_of (kind.MpUnreachNlri it) = Value.unreach (unreach_of it)
value_of (kind.ExtendedCommunities items) = Value.extended_communities (items_left items)
value_of (kind.As4Path path) = Value.as4_path (path_of path)
value_of (kind.As4Aggregator it) = Value.as4_aggregator (it.asn.0, it.address)
value_of (kind.LargeCommunities items) = Value.large_communities (items_left items)
value_of (kind.Opaque octets) = Value.opaque (window octets)
