-- What two OPENs agree on: RFC 6793, 4.1 (four-octet AS numbers), RFC 7911, 4 (path ids), RFC 8654, 3 (extended
-- messages).
use Rattle.std.specs.Prelude.{◌≡◌, Bool, true, false, ◌&&◌, ◌||◌, ℕ, List, [], ◌∷◌, ◌++◌, if◌then◌else◌, nat_eq}
use Rattle.octseq_bgp.specs.Capability.{ParameterValue, IsParameterValue, CapabilityValue, IsCapabilityValue}
use Rattle.octseq.specs.Window.{Window}
use Rattle.octseq_bgp.specs.Family.{afi_number, safi_number}
use Rattle.octseq_bgp.specs.declared.family.AfiSafiType.{AfiSafiType}
use Rattle.octseq_bgp.specs.declared.family.AfiSafiType.TheVariants as family
use Rattle.octseq_bgp.specs.declared.session.AddPath.{AddPath}
use Rattle.octseq_bgp.specs.declared.session.SessionConfig.{SessionConfig}

-- the values of capabilities
abbrev pub AreValues : List (ℕ × Window) → List CapabilityValue → Type 0
AreValues [] values = values ≡ []
AreValues (e ∷ more) values =
    (v : CapabilityValue) × IsCapabilityValue e.0 e.1 v × (rest : List CapabilityValue)
    × AreValues more rest × (values ≡ v ∷ rest)

-- the capabilities of a parameter
abbrev pub said_capabilities : ParameterValue → List (ℕ × Window)
said_capabilities (ParameterValue.capabilities row) = row
said_capabilities (ParameterValue.opaque octets) = []

-- the values of the capabilities of parameters, in order
abbrev pub SayAll : List (ℕ × Window) → List CapabilityValue → Type 0
SayAll [] values = values ≡ []
SayAll (p ∷ more) values = (v : ParameterValue) × IsParameterValue p.0 p.1 v
    × (here : List CapabilityValue) × AreValues (said_capabilities v) here
    × (rest : List CapabilityValue) × SayAll more rest × (values ≡ here ++ rest)

-- What capabilities say together: four-octet AS numbers; extended messages; families with path ids.
pub record Advertised : Type 0 where
  pub four_octet_asn : Bool
  pub extended_message : Bool
  pub paths : List (ℕ × (ℕ × ℕ))

-- one more capability is added: of families with path ids, the last list counts
abbrev pub also_says : Advertised → CapabilityValue → Advertised
also_says s (CapabilityValue.four_octet_asn asn) = record s { four_octet_asn = true }
also_says s CapabilityValue.extended_message = record s { extended_message = true }
also_says s (CapabilityValue.add_path paths) = record s { paths = paths }
also_says s _ = s

-- the same for a list
abbrev pub all_say : Advertised → List CapabilityValue → Advertised
all_say s [] = s
all_say s (v ∷ more) = all_say (also_says s v) more

-- nothing is said
abbrev pub none_advertised : Advertised
none_advertised = record { four_octet_asn = false; extended_message = false; paths = [] }

-- what a list says of the path ids of a family, by its last entry, otherwise what was said before
abbrev pub path_flags : AfiSafiType → ℕ → List (ℕ × (ℕ × ℕ)) → ℕ
path_flags f before [] = before
path_flags f before (t ∷ more) =
    path_flags f (if nat_eq t.0 (afi_number f) && nat_eq t.1.0 (safi_number f) then t.1.1 else before) more

-- 1 receive, 2 send, 3 both
abbrev pub agrees : ℕ → ℕ → Bool
agrees ours theirs = (nat_eq ours 1 || nat_eq ours 3) && (nat_eq theirs 2 || nat_eq theirs 3)

-- a family has path ids in the messages they send us: we receive them, and they send them
abbrev pub agree_on : Advertised → Advertised → AfiSafiType → Bool
agree_on ours theirs f = agrees (path_flags f 0 ours.paths) (path_flags f 0 theirs.paths)

-- the families with path ids
abbrev pub paths_agreed : Advertised → Advertised → AddPath
paths_agreed ours theirs = record {
  ipv4_unicast = agree_on ours theirs family.Ipv4Unicast;
  ipv4_multicast = agree_on ours theirs family.Ipv4Multicast;
  ipv6_unicast = agree_on ours theirs family.Ipv6Unicast;
  ipv6_multicast = agree_on ours theirs family.Ipv6Multicast;
}

-- how to read the messages that they send us
abbrev pub agreed : Advertised → Advertised → SessionConfig
agreed ours theirs = record {
  four_octet_asn = ours.four_octet_asn && theirs.four_octet_asn;
  add_path = paths_agreed ours theirs;
  extended_message = ours.extended_message && theirs.extended_message;
}

-- the same for two lists of parameters
abbrev pub IsAgreed : List (ℕ × Window) → List (ℕ × Window) → SessionConfig → Type 0
IsAgreed ours theirs s = (a b : List CapabilityValue) × SayAll ours a × SayAll theirs b
    × (s ≡ agreed (all_say none_advertised a) (all_say none_advertised b))
