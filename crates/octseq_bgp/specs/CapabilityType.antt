-- The codes of capabilities.
use Rattle.std.specs.Prelude.{ℕ}
use Rattle.octseq_bgp.specs.declared.capability.capability_type.CapabilityType.{CapabilityType}
use Rattle.octseq_bgp.specs.declared.capability.capability_type.CapabilityType.TheVariants as code

-- the number of a code
abbrev pub code_number : CapabilityType → ℕ
code_number code.MultiProtocol = 1
code_number code.RouteRefresh = 2
code_number code.ExtendedMessage = 6
code_number code.GracefulRestart = 64
code_number code.FourOctetAsn = 65
code_number code.AddPath = 69
code_number code.EnhancedRouteRefresh = 70
