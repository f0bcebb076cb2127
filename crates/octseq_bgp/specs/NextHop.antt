-- Which octets are next hops of an address family: RFC 4760, 3, RFC 2545, 3 (link-local addresses), and RFC 8950, 3
-- (IPv6 next hops of IPv4 prefixes).
use Rattle.std.specs.Prelude.{◌≡◌, ℕ, List}
use Rattle.octseq.specs.Window.{Window}
use Rattle.octseq_format.specs.Fixed.{IsFixed}
use Rattle.octseq_format.specs.Laws.{Relation}
use Rattle.octseq_format.specs.Pair.{◌then◌}
use Rattle.octseq_bgp.specs.Family.{afi_number}
use Rattle.octseq_bgp.specs.Fills.{Whole}
use Rattle.octseq_bgp.specs.declared.family.AfiSafiType.{AfiSafiType}
use Rattle.octseq_bgp.specs.declared.attribute.next_hop.NextHop.{NextHop}
use Rattle.octseq_bgp.specs.declared.attribute.next_hop.NextHop.TheVariants as hop

-- the next k octets, as they are
abbrev pub AreOctets : ℕ → Relation (List ℕ)
AreOctets k = IsFixed k (λ octets. octets)

-- The octets are next hops of a family: an IPv4 address, for IPv4 only; an IPv6 address; or two, the second one
-- link-local.
abbrev pub IsNextHop : AfiSafiType → Window → NextHop → Type 0
IsNextHop f w (hop.Ipv4 a) = (afi_number f ≡ 1) × Whole (AreOctets 4) w a
IsNextHop f w (hop.Ipv6 a) = Whole (AreOctets 16) w a
IsNextHop f w (hop.Ipv6LinkLocal a b) = Whole (AreOctets 16 then AreOctets 16) w (a, b)
