-- Octets that are next hops only aren't an MP_REACH_NLRI of a message.
use Rattle.std.proofs.Common.{◌≡◌, ℕ, ◌≤◌, List, [], ◌∷◌, take, drop, ap, ◌∙◌, arith}
use mathlib.Core.Logic.{inl, inr}
use Rattle.octseq.specs.Integer.{be}
use Rattle.octseq.specs.Window.{Window, left, next}
use Rattle.octseq_format.proofs.Parts.{part_of_counted}
use Rattle.octseq_bgp.specs.Family.{afi_number}
use Rattle.octseq_bgp.specs.Value.{Reach, IsReach}
use Rattle.octseq_bgp.specs.declared.family.AfiSafiType.{AfiSafiType}
use Rattle.octseq_bgp.specs.declared.family.AfiSafiType.TheVariants as family
use Rattle.octseq_bgp.specs.declared.session.SessionConfig.{SessionConfig}
use Rattle.octseq_mrt.specs.Rib.{is_next_hop_size, IsNextHopAlone}

-- the number of two octets is at least 256 times the first
first_counts : (l : List ℕ) (n k : ℕ) → n ≡ be (take 2 l) → n ≤ 2 → k ≡ be (take 1 l) → 4 ≤ k → ⊥
unfolding be
first_counts [] n k two small one long = omega (arith, one, long)
first_counts (a ∷ []) n k two small one long = omega (arith, two, small, one, long)
first_counts (a ∷ (b ∷ more)) n k two small one long = omega (arith, two, small, one, long)

-- the numbers of the address families that are parsed
small_number : (f : AfiSafiType) → afi_number f ≤ 2
small_number family.Ipv4Unicast = omega arith
small_number _ = omega arith

some_size : (size : ℕ) → is_next_hop_size size → 4 ≤ size
some_size size (inl is) = omega (arith, is)
some_size size (inr (inl is)) = omega (arith, is)
some_size size (inr (inr is)) = omega (arith, is)

-- the next octets of a window
next_octets : (w : Window) (n : ℕ) → next n w ≡ take n (drop w.position w.octets)
next_octets w n = ap (λ n. take n (drop w.position w.octets)) (omega arith)

pub apart : (s : SessionConfig) (w : Window) (r : Reach) → IsReach s w r → (inside : Window)
    → IsNextHopAlone 14 w inside → ⊥
apart s w r reach inside alone =
    let afi = reach.front.1.1.1 ∙ ap be (next_octets w 2) in
    let same = ap left (part_of_counted 1 w inside alone.1.0 alone.1.1).1 in
    let size : left inside ≡ be (next 1 w) = omega (arith, same) in
    first_counts (drop w.position w.octets) (afi_number r.family) (left inside) afi (small_number r.family)
    (size ∙ ap be (next_octets w 1)) (some_size (left inside) alone.2)
