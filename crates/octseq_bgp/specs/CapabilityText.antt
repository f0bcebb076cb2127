-- The text of parameters and capabilities.
use Rattle.std.specs.Prelude.{ℕ, if◌then◌else◌, nat_eq, List, ◌++◌, codes}
use Rattle.std.specs.Fmt.{decimal}
use Rattle.std.specs.List.{flat_map}
use Rattle.octseq.specs.Window.{Window, rest}
use Rattle.octseq_bgp.specs.Capability.{CapabilityValue, Restart, has_restarted, takes_notifications, restart_time}
use Rattle.octseq_bgp.specs.FamilyTuple.{forwards}
use Rattle.octseq_bgp.specs.OctetsText.{spaced}
use Rattle.octseq.specs.OctetsText.{opaque_text}

-- an address family by its numbers
abbrev pub afi_text : ℕ → List ℕ
afi_text n = if nat_eq n 1 then codes "IPv4" else (if nat_eq n 2 then codes "IPv6" else codes "AFI" ++ decimal n)

abbrev pub safi_text : ℕ → List ℕ
safi_text n = if nat_eq n 1 then codes "unicast"
    else (if nat_eq n 2 then codes "multicast" else codes "SAFI" ++ decimal n)

abbrev pub numbers_family : ℕ → ℕ → List ℕ
numbers_family afi safi = afi_text afi ++ codes "/" ++ safi_text safi

-- the first two bits of a graceful restart
abbrev pub restart_flags : ℕ → List ℕ
restart_flags bits = if has_restarted bits then (if takes_notifications bits then codes "RN" else codes "R")
    else (if takes_notifications bits then codes "N" else codes "-")

-- a family, and whether its forwarding state was kept
abbrev pub kept_text : ℕ × (ℕ × ℕ) → List ℕ
kept_text t = numbers_family t.0 t.1.0 ++ (if forwards t.1.1 then codes " F" else codes " -")

abbrev pub restart_text : Restart → List ℕ
restart_text r = restart_flags r.bits ++ spaced (decimal (restart_time r.bits))
    ++ flat_map (λ t. spaced (kept_text t)) r.families

-- what is done with path ids
abbrev pub use_text : ℕ → List ℕ
use_text n = if nat_eq n 1 then codes " receive" else (if nat_eq n 2 then codes " send" else codes " both")

-- a family, and what is done with its path ids
abbrev pub paths_text : ℕ × (ℕ × ℕ) → List ℕ
paths_text t = numbers_family t.0 t.1.0 ++ use_text t.1.1

-- a capability of a code, by its value
abbrev pub capability_text : ℕ → CapabilityValue → List ℕ
capability_text code (CapabilityValue.multi_protocol n) = codes "multiprotocol " ++ numbers_family n.0 n.1.1
capability_text code CapabilityValue.route_refresh = codes "route-refresh"
capability_text code CapabilityValue.extended_message = codes "extended-message"
capability_text code (CapabilityValue.graceful_restart r) = codes "graceful-restart " ++ restart_text r
capability_text code (CapabilityValue.four_octet_asn n) = codes "four-octet-as " ++ decimal n
capability_text code (CapabilityValue.add_path row) = codes "add-path" ++ flat_map (λ t. spaced (paths_text t)) row
capability_text code CapabilityValue.enhanced_route_refresh = codes "enhanced-route-refresh"
capability_text code (CapabilityValue.opaque w) = decimal code ++ spaced (opaque_text (rest w))

-- a parameter of a type, whatever its octets say
abbrev pub parameter_text : ℕ → Window → List ℕ
parameter_text kind w = decimal kind ++ spaced (opaque_text (rest w))
