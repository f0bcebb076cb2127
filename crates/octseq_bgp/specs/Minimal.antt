-- Minimal messages: what has no meaning is 0, and each length is as short as it can be. RFC 4271, 4.2 and 4.3, RFC
-- 4760, 3 and 8, RFC 4724, 3, RFC 8538, 2, and RFC 9072, 2.
use Rattle.std.specs.Prelude.{◌≡◌, ◌↔◌, ◌<◌, ◌/◌, ◌%◌, ◌^◌, ℕ, List, IsTrue, map, slice_index}
use Rattle.std.specs.List.{AllByRecursion}
use Rattle.octseq.specs.Window.{Window, left, rest}
use Rattle.octseq_bgp.specs.Capability.{CapabilityValue, IsCapabilityValue, IsParameterValue, ParameterValue}
use Rattle.octseq_bgp.specs.Message.{Message, IsMessage}
use Rattle.octseq_bgp.specs.OneOpen.{says_parameter}
use Rattle.octseq_bgp.specs.Open.{HasParameters, IsOpen, Open}
use Rattle.octseq_bgp.specs.Parts.{Attribute, flags_of, inside_of, is_extended, type_of}
use Rattle.octseq_bgp.specs.Prefix.{Nlri}
use Rattle.octseq_bgp.specs.PrefixValue.{bits_after}
use Rattle.octseq_bgp.specs.RewrittenOpen.{needs_long}
use Rattle.octseq_bgp.specs.Update.{Update}
use Rattle.octseq_bgp.specs.Value.{IsReach, IsValue, Value}
use Rattle.octseq_bgp.specs.declared.session.SessionConfig.{SessionConfig}

-- ---- an UPDATE

-- the bits after the length of a prefix are 0
abbrev pub IsClear : Nlri → Type 0
IsClear n = (i : ℕ) → slice_index (rest n.octets) i % 2 ^ bits_after n.bits i ≡ 0

abbrev pub AreClear : List Nlri → Type 0
AreClear row = AllByRecursion IsClear row

-- the value of an attribute: its prefixes are clear, and the reserved octet of an MP_REACH_NLRI is 0
abbrev pub IsValueMinimal : SessionConfig → Window → Value → Type 0
IsValueMinimal s w (Value.reach r) = ((is : IsReach s w r) → is.reserved ≡ 0) × AreClear r.prefixes
IsValueMinimal s w (Value.unreach r) = AreClear r.prefixes
IsValueMinimal s w _ = Unit {0}

-- An attribute: its four lower flags are 0, and its length has two octets exactly if it says more than 255.
pub record IsAttributeMinimal (s : SessionConfig) (a : Attribute) : Type 0 where
  pub lower : flags_of a % 16 ≡ 0
  pub extended : IsTrue (is_extended (flags_of a)) ↔ (255 < left (inside_of a))
  pub value : (v : Value) → IsValue s (type_of a) (inside_of a) v → IsValueMinimal s (inside_of a) v

pub record IsUpdateMinimal (u : Update) : Type 0 where
  pub withdrawn : AreClear u.withdrawn
  pub attributes : AllByRecursion (IsAttributeMinimal u.session) u.attributes
  pub announced : AreClear u.announced

-- ---- an OPEN

-- the value of a capability: the reserved octet of an address family is 0, and so are the third and the fourth bit of a
-- graceful restart, and all but the first of the flags of its families
abbrev pub HasNoReserved : CapabilityValue → Type 0
HasNoReserved (CapabilityValue.multi_protocol family) = family.1.0 ≡ 0
HasNoReserved (CapabilityValue.graceful_restart r) =
    (r.bits / 4096 % 4 ≡ 0) × AllByRecursion (λ t. t.1.1 % 128 ≡ 0) r.families
HasNoReserved _ = Unit {0}

abbrev pub IsCapabilityMinimal : ℕ × Window → Type 0
IsCapabilityMinimal c = (v : CapabilityValue) → IsCapabilityValue c.0 c.1 v → HasNoReserved v

-- a parameter: so is each of its capabilities
abbrev pub IsParameterMinimal : ℕ × Window → Type 0
IsParameterMinimal p = (row : List (ℕ × Window)) → IsParameterValue p.0 p.1 (ParameterValue.capabilities row)
    → AllByRecursion IsCapabilityMinimal row

-- Parameters are in the long form only if they need it, and the octet without meaning is then 255. (Those that were
-- read in the short form don't need the long one.)
abbrev pub IsFormMinimal : (w : Window) (row : List (ℕ × Window)) → HasParameters w row → Type 0
IsFormMinimal w row (HasParameters.short _ _ _ _) = Unit {0}
IsFormMinimal w row (HasParameters.long _ marks _ _) =
    (marks.0 ≡ 255) × IsTrue (needs_long (map says_parameter row))

abbrev pub IsOpenMinimal : Window → Open → Type 0
IsOpenMinimal w o =
    ((is : IsOpen w o) → IsFormMinimal is.rest o.parameters is.parameters)
    × AllByRecursion IsParameterMinimal o.parameters

-- ---- a message

-- what follows a header
abbrev pub IsBodyMinimal : Window → Message → Type 0
IsBodyMinimal w (Message.opens o) = IsOpenMinimal w o
IsBodyMinimal w (Message.update u) = IsUpdateMinimal u
IsBodyMinimal w _ = Unit {0}

-- octets that are a message of a session
pub record IsMinimalMessage (s : SessionConfig) (octets : List ℕ) : Type 0 where
  pub message : Message
  pub is : IsMessage s octets message
  pub minimal : IsBodyMinimal is.body message
