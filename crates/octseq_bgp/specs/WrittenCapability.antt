-- Capabilities to be written, and their octets: RFC 5492, 4, and the RFC of each code.
use Rattle.std.specs.Prelude.{ℕ, ◌<◌, ◌≤◌, ◌^◌, List, [], ◌++◌, length, Option, Some, None}
use Rattle.std.specs.List.{AllByRecursion}
use Rattle.octseq.specs.Integer.{octets_be}
use Rattle.octseq_format.specs.Row.{row_octets}
use Rattle.octseq_bgp.specs.Capability.{ArePaths, CapabilityValue, Restart}
use Rattle.octseq_bgp.specs.CapabilityType.{code_number}
use Rattle.octseq_bgp.specs.ItemOctets.{FitsTuple, tuple_octets}
use Rattle.octseq_bgp.specs.declared.capability.capability_type.CapabilityType.TheVariants as code

-- A capability: AFI, a reserved octet, and SAFI; nothing more; sixteen bits, and families with flags; an AS number;
-- families with path ids; or octets of a code.
pub data WrittenCapability : Type 0 where
  multi_protocol : ℕ × (ℕ × ℕ) → WrittenCapability
  route_refresh : WrittenCapability
  extended_message : WrittenCapability
  graceful_restart : Restart → WrittenCapability
  four_octet_asn : ℕ → WrittenCapability
  add_path : List (ℕ × (ℕ × ℕ)) → WrittenCapability
  enhanced_route_refresh : WrittenCapability
  unknown : ℕ × List ℕ → WrittenCapability

-- its code
abbrev pub written_code : WrittenCapability → ℕ
written_code (WrittenCapability.multi_protocol family) = code_number code.MultiProtocol
written_code WrittenCapability.route_refresh = code_number code.RouteRefresh
written_code WrittenCapability.extended_message = code_number code.ExtendedMessage
written_code (WrittenCapability.graceful_restart r) = code_number code.GracefulRestart
written_code (WrittenCapability.four_octet_asn n) = code_number code.FourOctetAsn
written_code (WrittenCapability.add_path row) = code_number code.AddPath
written_code WrittenCapability.enhanced_route_refresh = code_number code.EnhancedRouteRefresh
written_code (WrittenCapability.unknown c) = c.0

-- the octets after its code and its length
abbrev pub written_value : WrittenCapability → List ℕ
written_value (WrittenCapability.multi_protocol family) = tuple_octets family
written_value WrittenCapability.route_refresh = []
written_value WrittenCapability.extended_message = []
written_value (WrittenCapability.graceful_restart r) = octets_be 2 r.bits ++ row_octets tuple_octets r.families
written_value (WrittenCapability.four_octet_asn n) = octets_be 4 n
written_value (WrittenCapability.add_path row) = row_octets tuple_octets row
written_value WrittenCapability.enhanced_route_refresh = []
written_value (WrittenCapability.unknown c) = c.1

-- its numbers fit their octets, and families with path ids are one or more
abbrev pub FitsCode : WrittenCapability → Type 0
FitsCode (WrittenCapability.multi_protocol family) = FitsTuple family
FitsCode WrittenCapability.route_refresh = Unit {0}
FitsCode WrittenCapability.extended_message = Unit {0}
FitsCode (WrittenCapability.graceful_restart r) = (r.bits < 256 ^ 2) × AllByRecursion FitsTuple r.families
FitsCode (WrittenCapability.four_octet_asn n) = n < 256 ^ 4
FitsCode (WrittenCapability.add_path row) = (1 ≤ length row) × AllByRecursion FitsTuple row × ArePaths row
FitsCode WrittenCapability.enhanced_route_refresh = Unit {0}
FitsCode (WrittenCapability.unknown c) = c.0 < 256

-- It fits, and its octets the octet of a length.
pub record FitsCapability (c : WrittenCapability) : Type 0 where
  pub form : FitsCode c
  pub short : length (written_value c) ≤ 255

-- its code, its length and its octets
abbrev pub capability_octets : WrittenCapability → List ℕ
capability_octets c = octets_be 1 (written_code c) ++ (octets_be 1 (length (written_value c)) ++ written_value c)

-- what a capability that was read says, unless it is opaque
abbrev pub says_capability : CapabilityValue → Option WrittenCapability
says_capability (CapabilityValue.multi_protocol family) = Some (WrittenCapability.multi_protocol family)
says_capability CapabilityValue.route_refresh = Some WrittenCapability.route_refresh
says_capability CapabilityValue.extended_message = Some WrittenCapability.extended_message
says_capability (CapabilityValue.graceful_restart r) = Some (WrittenCapability.graceful_restart r)
says_capability (CapabilityValue.four_octet_asn n) = Some (WrittenCapability.four_octet_asn n)
says_capability (CapabilityValue.add_path row) = Some (WrittenCapability.add_path row)
says_capability CapabilityValue.enhanced_route_refresh = Some WrittenCapability.enhanced_route_refresh
says_capability (CapabilityValue.opaque octets) = None
