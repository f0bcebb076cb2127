-- What a capability to write says.
use Rattle.std.specs.Prelude.{map}
use Rattle.octseq_bgp.specs.TupleOf.{tuple_of}
use Rattle.octseq_bgp.specs.WrittenCapability.{WrittenCapability}
use Rattle.octseq_bgp.specs.declared.capability.compose.NewCapability.{NewCapability}
use Rattle.octseq_bgp.specs.declared.capability.compose.NewCapability.TheVariants as new

abbrev pub new_capability : NewCapability → WrittenCapability
new_capability (new.MultiProtocol afi reserved safi) = WrittenCapability.multi_protocol (afi, (reserved, safi))
new_capability new.RouteRefresh = WrittenCapability.route_refresh
new_capability new.ExtendedMessage = WrittenCapability.extended_message
new_capability (new.GracefulRestart bits families) =
    WrittenCapability.graceful_restart (record { bits = bits; families = map tuple_of families.now })
new_capability (new.FourOctetAsn asn) = WrittenCapability.four_octet_asn asn.0
new_capability (new.AddPath families) = WrittenCapability.add_path (map tuple_of families.now)
new_capability new.EnhancedRouteRefresh = WrittenCapability.enhanced_route_refresh
new_capability (new.Unknown code octets) = WrittenCapability.unknown (code, octets.now)
