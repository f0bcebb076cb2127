-- The session of BGP messages, as C says it.
use Rattle.std.specs.Prelude.{ℕ, ◌/◌, ◌%◌, ◌+◌, Bool, true, false, not, nat_eq}
use Rattle.octseq_bgp.specs.declared.session.SessionConfig.{SessionConfig}

-- the flag of a weight is set
abbrev pub is_set : ℕ → ℕ → Bool
is_set weight flags = nat_eq (flags / weight % 2) 1

-- The session that flags describe: 1 two-octet AS numbers, 2 messages of up to 65,535 octets, and path ids for 4 IPv4
-- unicast, 8 IPv4 multicast, 16 IPv6 unicast, 32 IPv6 multicast. Higher flags have no meaning.
abbrev pub session_of : ℕ → SessionConfig
session_of flags = record {
  four_octet_asn = not (is_set 1 flags);
  add_path = record {
    ipv4_unicast = is_set 4 flags;
    ipv4_multicast = is_set 8 flags;
    ipv6_unicast = is_set 16 flags;
    ipv6_multicast = is_set 32 flags;
  };
  extended_message = is_set 2 flags;
}

-- the weight of a flag that is set, otherwise 0
abbrev pub weight_of : Bool → ℕ → ℕ
weight_of true weight = weight
weight_of false weight = 0

-- the flags of a session
abbrev pub session_flags : SessionConfig → ℕ
session_flags s = weight_of (not s.four_octet_asn) 1 + (weight_of s.extended_message 2
    + (weight_of s.add_path.ipv4_unicast 4 + (weight_of s.add_path.ipv4_multicast 8
    + (weight_of s.add_path.ipv6_unicast 16 + weight_of s.add_path.ipv6_multicast 32))))
