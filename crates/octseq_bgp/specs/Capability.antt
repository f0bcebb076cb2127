-- The values of parameters and capabilities, by their type or code: RFC 5492, 4, RFC 4760, 8 (multiprotocol
-- extensions), RFC 2918, 2 (route refresh), RFC 8654, 3 (extended messages), RFC 4724, 3 (graceful restart), RFC 6793,
-- 3 (four-octet AS numbers), RFC 7911, 4 (additional paths), RFC 7313, 3.1 (enhanced route refresh).
use Rattle.std.specs.Prelude.{◌≡◌, ℕ, ◌/◌, ◌%◌, ◌≤◌, Bool, nat_eq, ◌⊎◌, List, [], ◌∷◌}
use Rattle.octseq.specs.Window.{Window, left}
use Rattle.octseq_format.specs.Fixed.{IsFixed}
use Rattle.octseq_format.specs.Pair.{◌then◌}
use Rattle.octseq_format.specs.Rest.{IsRest}
use Rattle.octseq_bgp.specs.CapabilityType.{code_number}
use Rattle.octseq_bgp.specs.FamilyTuple.{family_tuple}
use Rattle.octseq_bgp.specs.Fills.{Whole, Fills}
use Rattle.octseq_bgp.specs.Parts.{IsNumber, IsTlv}
use Rattle.octseq_bgp.specs.Value.{SomeItems}
use Rattle.octseq_bgp.specs.declared.capability.capability_type.CapabilityType.{CapabilityType}
use Rattle.octseq_bgp.specs.declared.capability.capability_type.CapabilityType.TheVariants as code

-- The value of a parameter: capabilities, or opaque octets.
pub data ParameterValue : Type 0 where
  capabilities : List (ℕ × Window) → ParameterValue
  opaque : Window → ParameterValue

-- the octets of a parameter of type 2 are capabilities
abbrev pub AreCapabilities : ℕ → Window → List (ℕ × Window) → Type 0
AreCapabilities kind w row = (kind ≡ 2) × Fills (IsTlv 1) w row

-- the value of a parameter
abbrev pub IsParameterValue : ℕ → Window → ParameterValue → Type 0
IsParameterValue kind w (ParameterValue.capabilities row) = AreCapabilities kind w row
IsParameterValue kind w (ParameterValue.opaque octets) =
    (octets ≡ w) × ((row : List (ℕ × Window)) → ¬ AreCapabilities kind w row)

-- Graceful restart: sixteen bits, and address families with flags: RFC 4724, 3.
pub record Restart : Type 0 where
  pub bits : ℕ
  pub families : List (ℕ × (ℕ × ℕ))

-- the first bit, the second, and the last twelve: RFC 4724, 3, and RFC 8538, 2
abbrev pub has_restarted : ℕ → Bool
has_restarted bits = nat_eq (bits / 32768) 1

abbrev pub takes_notifications : ℕ → Bool
takes_notifications bits = nat_eq (bits / 16384 % 2) 1

abbrev pub restart_time : ℕ → ℕ
restart_time bits = bits % 4096

pub record IsRestart (w : Window) (r : Restart) : Type 0 where
  pub rest : Window
  pub front : Whole (IsNumber 2 then IsRest) w (r.bits, rest)
  pub families : Fills (IsFixed 4 family_tuple) rest r.families

-- each family has its path ids received, sent, or both: RFC 7911, 4
abbrev pub ArePaths : List (ℕ × (ℕ × ℕ)) → Type 0
ArePaths [] = Unit {0}
ArePaths (t ∷ more) = (1 ≤ t.1.1) × (t.1.1 ≤ 3) × ArePaths more

-- The value of a capability: AFI, a reserved octet, and SAFI; nothing more; a graceful restart; an AS number; families
-- with path ids; or octets without the form of their code.
pub data CapabilityValue : Type 0 where
  multi_protocol : ℕ × (ℕ × ℕ) → CapabilityValue
  route_refresh : CapabilityValue
  extended_message : CapabilityValue
  graceful_restart : Restart → CapabilityValue
  four_octet_asn : ℕ → CapabilityValue
  add_path : List (ℕ × (ℕ × ℕ)) → CapabilityValue
  enhanced_route_refresh : CapabilityValue
  opaque : Window → CapabilityValue

-- one or more families with path ids
abbrev pub IsAddPath : Window → List (ℕ × (ℕ × ℕ)) → Type 0
IsAddPath w row = SomeItems 4 family_tuple w row × ArePaths row

-- a value made from what a window says
abbrev pub MadeCapability : {A : Type 0} → (A → CapabilityValue) → (A → Type 0) → CapabilityValue → Type 0
MadeCapability {A} make Is v = (a : A) × (v ≡ make a) × Is a

-- the window has no octets, and the value is this one
abbrev pub Bare : CapabilityValue → Window → CapabilityValue → Type 0
Bare value w v = (v ≡ value) × (left w ≡ 0)

-- the window has the form of a code, and is this value
abbrev pub HasCode : CapabilityType → Window → CapabilityValue → Type 0
HasCode code.MultiProtocol w =
    MadeCapability CapabilityValue.multi_protocol (Whole (IsNumber 2 then IsNumber 1 then IsNumber 1) w)
HasCode code.RouteRefresh w = Bare CapabilityValue.route_refresh w
HasCode code.ExtendedMessage w = Bare CapabilityValue.extended_message w
HasCode code.GracefulRestart w = MadeCapability CapabilityValue.graceful_restart (IsRestart w)
HasCode code.FourOctetAsn w = MadeCapability CapabilityValue.four_octet_asn (Whole (IsNumber 4) w)
HasCode code.AddPath w = MadeCapability CapabilityValue.add_path (IsAddPath w)
HasCode code.EnhancedRouteRefresh w = Bare CapabilityValue.enhanced_route_refresh w

-- the octets of a capability have the form of its code, and are this value
abbrev pub IsCoded : ℕ → Window → CapabilityValue → Type 0
IsCoded number w v = (c : CapabilityType) × (number ≡ code_number c) × HasCode c w v

-- they are a value, or have no form and are opaque
abbrev pub IsCapabilityValue : ℕ → Window → CapabilityValue → Type 0
IsCapabilityValue number w v =
    IsCoded number w v ⊎ (v ≡ CapabilityValue.opaque w) × ((other : CapabilityValue) → ¬ IsCoded number w other)
