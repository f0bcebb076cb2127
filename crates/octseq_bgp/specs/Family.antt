-- The AFI and the SAFI of each address family: RFC 4760, 5 and 6.
use Rattle.std.specs.Prelude.{ℕ}
use Rattle.octseq_bgp.specs.declared.family.Afi.{Afi}
use Rattle.octseq_bgp.specs.declared.family.Afi.TheVariants as addresses
use Rattle.octseq_bgp.specs.declared.family.AfiSafiType.{AfiSafiType}
use Rattle.octseq_bgp.specs.declared.family.AfiSafiType.TheVariants as family

-- the AFI
abbrev pub afi_number : AfiSafiType → ℕ
afi_number family.Ipv4Unicast = 1
afi_number family.Ipv4Multicast = 1
afi_number family.Ipv6Unicast = 2
afi_number family.Ipv6Multicast = 2

-- the SAFI
abbrev pub safi_number : AfiSafiType → ℕ
safi_number family.Ipv4Unicast = 1
safi_number family.Ipv4Multicast = 2
safi_number family.Ipv6Unicast = 1
safi_number family.Ipv6Multicast = 2

-- the family of its addresses
abbrev pub afi_of : AfiSafiType → Afi
afi_of family.Ipv4Unicast = addresses.Ipv4
afi_of family.Ipv4Multicast = addresses.Ipv4
afi_of family.Ipv6Unicast = addresses.Ipv6
afi_of family.Ipv6Multicast = addresses.Ipv6
