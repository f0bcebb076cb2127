-- What contracts see of capabilities.
use Rattle.std.specs.Prelude.{ℕ, List}
use Rattle.octseq.specs.declared.AsOctets.{Ghosts}
use Rattle.octseq.specs.Parser.{window}
use Rattle.octseq_bgp.specs.Capability as said
use Rattle.octseq.specs.Window.{Window}
use Rattle.octseq_bgp.specs.Items.{items_left}
use Rattle.octseq_bgp.specs.declared.capability.Capabilities.{Capabilities}
use Rattle.octseq_bgp.specs.declared.capability.Capability.{Capability}
use Rattle.octseq_bgp.specs.declared.capability.ParameterValue.{ParameterValue}
use Rattle.octseq_bgp.specs.declared.capability.ParameterValue.TheVariants as value
use Rattle.octseq_bgp.specs.declared.capability.value.CapabilityValue.{CapabilityValue}
use Rattle.octseq_bgp.specs.declared.capability.value.CapabilityValue.TheVariants as code
use Rattle.octseq_bgp.specs.declared.capability.value.GracefulRestart.{GracefulRestart}

-- a capability: its code, and the window of its octets
abbrev pub capability_of : {R : Type 0} {g : Ghosts R} → Capability R g → ℕ × Window
capability_of c = (c.code, window c.octets)

-- the capabilities that are left
abbrev pub capabilities_left : {R : Type 0} {g : Ghosts R} → Capabilities R g → List (ℕ × Window)
capabilities_left c = c.ahead.0

-- the value of a parameter
abbrev pub parameter_value_of : {R : Type 0} {g : Ghosts R} → ParameterValue R g → said.ParameterValue
parameter_value_of (value.Capabilities c) = said.ParameterValue.capabilities (capabilities_left c)
parameter_value_of (value.Opaque octets) = said.ParameterValue.opaque (window octets)

-- a graceful restart
abbrev pub restart_of : {R : Type 0} {g : Ghosts R} → GracefulRestart R g → said.Restart
restart_of r = record { bits = r.bits; families = items_left r.families }

-- the value of a capability
abbrev pub capability_value_of : {R : Type 0} {g : Ghosts R} → CapabilityValue R g → said.CapabilityValue
capability_value_of (code.MultiProtocol afi reserved safi) = said.CapabilityValue.multi_protocol (afi, (reserved, safi))
capability_value_of code.RouteRefresh = said.CapabilityValue.route_refresh
capability_value_of code.ExtendedMessage = said.CapabilityValue.extended_message
capability_value_of (code.GracefulRestart r) = said.CapabilityValue.graceful_restart (restart_of r)
capability_value_of (code.FourOctetAsn asn) = said.CapabilityValue.four_octet_asn asn.0
capability_value_of (code.AddPath items) = said.CapabilityValue.add_path (items_left items)
capability_value_of code.EnhancedRouteRefresh = said.CapabilityValue.enhanced_route_refresh
capability_value_of (code.Opaque octets) = said.CapabilityValue.opaque (window octets)
