-- Octets are next hops in at most one way.
use Rattle.std.proofs.Common.{◌≡◌, ◌≢◌, ℕ, List, ap, arith}
use Rattle.octseq.specs.Window.{Window, left}
use Rattle.octseq_format.specs.Fixed.{one_fixed}
use Rattle.octseq_format.specs.Laws.{IsOne}
use Rattle.octseq_format.specs.Pair.{◌then◌, ◌one_then◌}
use Rattle.octseq_bgp.specs.Family.{afi_number}
use Rattle.octseq_bgp.specs.Fills.{Whole}
use Rattle.octseq_bgp.specs.NextHop.{AreOctets, IsNextHop}
use Rattle.octseq_bgp.specs.declared.family.AfiSafiType.{AfiSafiType}
use Rattle.octseq_bgp.specs.declared.attribute.next_hop.NextHop.{NextHop}
use Rattle.octseq_bgp.specs.declared.attribute.next_hop.NextHop.TheVariants as hop
use Rattle.octseq_bgp.proofs.Wholes.{one_whole}

one_octets : (k : ℕ) → IsOne (AreOctets k)
one_octets k = one_fixed k (λ octets. octets)

-- a window of exactly k octets has k octets left
pub octets_left : (k : ℕ) (w : Window) (a : List ℕ) → Whole (AreOctets k) w a → left w ≡ k
octets_left k w a is =
    let past = ap left is.1.2 in
    let none = is.2 in
    let room = is.1.0 in
    omega (arith, past, none, room)

pub pair_left : (w : Window) (a : List ℕ × List ℕ) → Whole (AreOctets 16 then AreOctets 16) w a → left w ≡ 32
pair_left w a is =
    let first = ap left is.1.1.2 in
    let second = octets_left 16 is.1.0 a.1 (is.0, is.1.2, is.2) in
    let room = is.1.1.0 in
    omega (arith, first, second, room)

pub one_next_hop : (f : AfiSafiType) (w : Window) (h k : NextHop) → IsNextHop f w h → IsNextHop f w k → h ≡ k
one_next_hop f w (hop.Ipv4 a) (hop.Ipv4 b) is other =
    ap hop.Ipv4 (one_whole (AreOctets 4) (one_octets 4) w a b is.1 other.1)
one_next_hop f w (hop.Ipv4 a) (hop.Ipv6 b) is other =
    let m = octets_left 4 w a is.1 in let n = octets_left 16 w b other in absurd (omega (arith, m, n))
one_next_hop f w (hop.Ipv4 a) (hop.Ipv6LinkLocal b c) is other =
    let m = octets_left 4 w a is.1 in let n = pair_left w (b, c) other in absurd (omega (arith, m, n))
one_next_hop f w (hop.Ipv6 a) (hop.Ipv4 b) is other =
    let m = octets_left 16 w a is in let n = octets_left 4 w b other.1 in absurd (omega (arith, m, n))
one_next_hop f w (hop.Ipv6 a) (hop.Ipv6 b) is other =
    ap hop.Ipv6 (one_whole (AreOctets 16) (one_octets 16) w a b is other)
one_next_hop f w (hop.Ipv6 a) (hop.Ipv6LinkLocal b c) is other =
    let m = octets_left 16 w a is in let n = pair_left w (b, c) other in absurd (omega (arith, m, n))
one_next_hop f w (hop.Ipv6LinkLocal a c) (hop.Ipv4 b) is other =
    let m = pair_left w (a, c) is in let n = octets_left 4 w b other.1 in absurd (omega (arith, m, n))
one_next_hop f w (hop.Ipv6LinkLocal a c) (hop.Ipv6 b) is other =
    let m = pair_left w (a, c) is in let n = octets_left 16 w b other in absurd (omega (arith, m, n))
one_next_hop f w (hop.Ipv6LinkLocal a c) (hop.Ipv6LinkLocal b d) is other =
    ap (λ (p : List ℕ × List ℕ). hop.Ipv6LinkLocal p.0 p.1)
    (one_whole (AreOctets 16 then AreOctets 16) (one_octets 16 one_then one_octets 16) w (a, c) (b, d) is other)

-- 16 octets that aren't an IPv6 address aren't next hops
pub none_of_16 : (f : AfiSafiType) (w : Window) → left w ≡ 16 → ((a : List ℕ) → Whole (AreOctets 16) w a → ⊥)
    → (h : NextHop) → IsNextHop f w h → ⊥
none_of_16 f w size none (hop.Ipv4 a) is = let m = octets_left 4 w a is.1 in omega (arith, size, m)
none_of_16 f w size none (hop.Ipv6 a) is = none a is
none_of_16 f w size none (hop.Ipv6LinkLocal a b) is = let m = pair_left w (a, b) is in omega (arith, size, m)

-- nor are 32 octets that aren't two IPv6 addresses
pub none_of_32 : (f : AfiSafiType) (w : Window) → left w ≡ 32
    → ((p : List ℕ × List ℕ) → Whole (AreOctets 16 then AreOctets 16) w p → ⊥) → (h : NextHop) → IsNextHop f w h → ⊥
none_of_32 f w size none (hop.Ipv4 a) is = let m = octets_left 4 w a is.1 in omega (arith, size, m)
none_of_32 f w size none (hop.Ipv6 a) is = let m = octets_left 16 w a is in omega (arith, size, m)
none_of_32 f w size none (hop.Ipv6LinkLocal a b) is = none (a, b) is

-- nor are others that aren't an IPv4 address
pub none_of_4 : (f : AfiSafiType) (w : Window) → left w ≢ 16 → left w ≢ 32
    → ((a : List ℕ) → afi_number f ≡ 1 → Whole (AreOctets 4) w a → ⊥) → (h : NextHop) → IsNextHop f w h → ⊥
none_of_4 f w short long none (hop.Ipv4 a) is = none a is.0 is.1
none_of_4 f w short long none (hop.Ipv6 a) is = short (octets_left 16 w a is)
none_of_4 f w short long none (hop.Ipv6LinkLocal a b) is = long (pair_left w (a, b) is)
