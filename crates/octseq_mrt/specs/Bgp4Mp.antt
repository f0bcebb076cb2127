-- The messages and state changes of BGP4MP records: RFC 6396, 4.4 and 4.5 (BGP4MP_ET), and RFC 8050, 3 (path ids).
use Rattle.std.specs.Prelude.{◌≡◌, Bool, true, false, ℕ, Option}
use Rattle.octseq.specs.Window.{Window}
use Rattle.octseq_format.specs.Laws.{Relation}
use Rattle.octseq_format.specs.Pair.{◌then◌}
use Rattle.octseq_bgp.specs.Parts.{IsNumber, ◌deciding◌}
use Rattle.octseq_bgp.specs.Fills.{Whole}
use Rattle.octseq_bgp.specs.Path.{asn_size}
use Rattle.octseq_bgp.specs.declared.family.Afi.{Afi}
use Rattle.octseq_bgp.specs.declared.session.AddPath.{AddPath}
use Rattle.octseq_bgp.specs.declared.session.SessionConfig.{SessionConfig}
use Rattle.octseq_mrt.specs.Address.{Address, IsAddress, IsFamily, IsNumberIf}
use Rattle.octseq_mrt.specs.Kind.{is_state_change, has_wide_asns, has_path_ids}
use Rattle.octseq_mrt.specs.declared.kind.Bgp4MpSubtype.{Bgp4MpSubtype}

-- An event: an old state and a new one; or a message, with the session in which it is to be read and the window of its
-- octets.
pub data Event : Type 0 where
  state_change : ℕ × ℕ → Event
  message : SessionConfig → Window → Event

pub record Bgp4Mp : Type 0 where
  pub microseconds : Option ℕ
  pub peer_asn : ℕ
  pub local_asn : ℕ
  pub interface : ℕ
  pub peer_addr : Address
  pub local_addr : Address
  pub event : Event

-- path ids for all families, or for none
abbrev pub all_paths : Bool → AddPath
all_paths has = record { ipv4_unicast = has; ipv4_multicast = has; ipv6_unicast = has; ipv6_multicast = has }

-- how a message of a subtype is to be read: it may be an extended one
abbrev pub message_session : Bgp4MpSubtype → SessionConfig
message_session s = record {
  four_octet_asn = has_wide_asns s;
  add_path = all_paths (has_path_ids s);
  extended_message = true;
}

-- an address family, and the addresses of the peer and the collector
abbrev pub ArePeers : Relation (Afi × (Address × Address))
ArePeers = IsFamily deciding (λ afi. IsAddress afi then IsAddress afi)

-- Microseconds, if the type has them; the AS numbers of the peer and the collector; the interface index; and their
-- addresses.
abbrev pub IsBgp4MpFront : Bool → Bool → Relation (Option ℕ × (ℕ × (ℕ × (ℕ × (Afi × (Address × Address))))))
IsBgp4MpFront extended wide = IsNumberIf extended then IsNumber (asn_size wide) then IsNumber (asn_size wide)
    then IsNumber 2 then ArePeers

-- what follows, by the subtype
abbrev pub IsEvent : Bgp4MpSubtype → Window → Event → Type 0
IsEvent s w (Event.state_change states) = (is_state_change s ≡ true) × Whole (IsNumber 2 then IsNumber 2) w states
IsEvent s w (Event.message session octets) =
    (is_state_change s ≡ false) × (session ≡ message_session s) × (octets ≡ w)

-- A record of BGP4MP of a subtype, or of BGP4MP_ET: the event is in all that follows the addresses.
pub record IsBgp4Mp (extended : Bool) (s : Bgp4MpSubtype) (w : Window) (b : Bgp4Mp) : Type 0 where
  pub afi : Afi
  pub rest : Window
  pub front : IsBgp4MpFront extended (has_wide_asns s) w
      (b.microseconds, (b.peer_asn, (b.local_asn, (b.interface, (afi, (b.peer_addr, b.local_addr)))))) rest
  pub event : IsEvent s rest b.event
