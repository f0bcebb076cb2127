-- Addresses, and optional numbers.
use Rattle.std.specs.Prelude.{Bool, ℕ, Option, List}
use Rattle.std.specs.Net.Addr.{ipv4_octets, ipv6_segments, segments_of}
use Rattle.std.specs.declared.net.ip_addr.IpAddr.{IpAddr}
use Rattle.std.specs.declared.net.ip_addr.IpAddr.TheVariants.{V4, V6}
use Rattle.octseq_format.specs.Conditional.{IsIf}
use Rattle.octseq_format.specs.Fixed.{IsFixed}
use Rattle.octseq_format.specs.Laws.{Relation}
use Rattle.octseq_bgp.specs.Parts.{IsNumber}
use Rattle.octseq_bgp.specs.declared.family.Afi.{Afi}
use Rattle.octseq_bgp.specs.declared.family.Afi.TheVariants as addresses

-- An address: the four octets of IPv4, or the eight segments of IPv6, of two octets each.
pub data Address : Type 0 where
  ipv4 : List ℕ → Address
  ipv6 : List ℕ → Address

-- an address of std's
abbrev pub address_of : IpAddr → Address
address_of (V4 ip) = Address.ipv4 (ipv4_octets ip)
address_of (V6 ip) = Address.ipv6 (ipv6_segments ip)

-- the number of an address family
abbrev pub family_number : Afi → ℕ
family_number addresses.Ipv4 = 1
family_number addresses.Ipv6 = 2

-- the next address of a family
abbrev pub IsAddress : Afi → Relation Address
IsAddress addresses.Ipv4 = IsFixed 4 Address.ipv4
IsAddress addresses.Ipv6 = IsFixed 16 (λ octets. Address.ipv6 (segments_of octets))

-- the next address family number
abbrev pub IsFamily : Relation Afi
IsFamily w afi v = IsNumber 2 w (family_number afi) v

-- a number of four octets if there is to be one, otherwise nothing
abbrev pub IsNumberIf : Bool → Relation (Option ℕ)
IsNumberIf has = IsIf (λ _. has) (IsNumber 4) 0
