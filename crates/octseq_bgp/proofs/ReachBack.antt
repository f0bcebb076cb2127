-- Next hops of prefixes are read back, with what comes before and after them.
use Rattle.std.proofs.Common.{◌≡◌, ℕ, ◌+◌, List, ◌++◌, length, refl, ap, sym, ◌∙◌, subst, arith}
use Rattle.std.proofs.Common.{append_assoc, length-append}
use Rattle.octseq.specs.Integer.{octets_be}
use Rattle.octseq.specs.Window.{Window}
use Rattle.octseq_format.specs.Counted.{counted_octets, CountFits, delimited_counted}
use Rattle.octseq_format.specs.Fixed.{delimited_fixed, fixed_read_back}
use Rattle.octseq_format.specs.Integers.{are_be}
use Rattle.octseq_format.specs.Laws.{IsReadBack}
use Rattle.octseq_format.specs.Octets.{are_octets}
use Rattle.octseq_format.specs.Pair.{◌then◌, ◌also◌, ◌and◌, ◌before◌, both_octets, both_say, ◌back_then◌, same_pair}
use Rattle.octseq_format.specs.Row.{row_octets}
use Rattle.octseq_bgp.specs.Family.{afi_number, safi_number, afi_of}
use Rattle.octseq_bgp.specs.Fills.{Whole}
use Rattle.octseq_bgp.specs.NextHop.{AreOctets, IsNextHop}
use Rattle.octseq_bgp.specs.Session.{adds_path}
use Rattle.octseq_bgp.specs.Value.{IsReach, IsReachFront, IsUnreach, IsUnreachFront, Reach, Unreach}
use Rattle.octseq_bgp.specs.Written.{hop_octets, prefix_octets}
use Rattle.octseq_bgp.specs.WrittenValue.{FitPrefixes, FitsHop, FitsIn, WrittenReach, WrittenUnreach}
use Rattle.octseq_bgp.specs.WrittenValue.{reach_octets, says_reach, unreach_octets, says_unreach}
use Rattle.octseq_bgp.specs.declared.attribute.next_hop.NextHop.{NextHop}
use Rattle.octseq_bgp.specs.declared.attribute.next_hop.NextHop.TheVariants as hop
use Rattle.octseq_bgp.specs.declared.family.AfiSafiType.{AfiSafiType}
use Rattle.octseq_bgp.specs.declared.family.AfiSafiType.TheVariants as family
use Rattle.octseq_bgp.specs.declared.session.SessionConfig.{SessionConfig}
use Rattle.octseq_bgp.proofs.ReadBack.{nlri_back}
use Rattle.octseq_bgp.proofs.WholesBack.{HasAll, IsExtent, extent, extent_back, extent_of, extent_octets, has_extent}
use Rattle.octseq_bgp.proofs.WholesBack.{counted_is, whole_back}

-- octets that are all of a window
octets_back : (k : ℕ) (w : Window) (a : List ℕ) → length a ≡ k → HasAll w a → Whole (AreOctets k) w a
octets_back k w a many all =
    let it = whole_back (fixed_read_back (are_octets k)) w a many all in
    subst (Whole (AreOctets k) w) it.1 it.2

both_back : (w : Window) (a b : List ℕ) → (length a ≡ 16) × (length b ≡ 16) → HasAll w (a ++ b)
    → Whole (AreOctets 16 then AreOctets 16) w (a, b)
unfolding both_octets both_say
both_back w a b fits all =
    let back = delimited_fixed (are_octets 16) back_then fixed_read_back (are_octets 16) in
    let it = whole_back back w (a, b) (record { first = fits.0; second = fits.1 }) all in
    subst (Whole (AreOctets 16 then AreOctets 16) w) it.1 it.2

pub hop_back : (f : AfiSafiType) (w : Window) (next : NextHop) → FitsHop f next → HasAll w (hop_octets next)
    → IsNextHop f w next
hop_back f w (hop.Ipv4 a) fits all = (fits.0, octets_back 4 w a fits.1 all)
hop_back f w (hop.Ipv6 a) fits all = octets_back 16 w a fits all
hop_back f w (hop.Ipv6LinkLocal a b) fits all = both_back w a b fits all

-- ---- with what comes before and after them

abbrev Front : Type 0
Front = ℕ × (ℕ × ((ℕ × (ℕ × List ℕ)) × (ℕ × (ℕ × (ℕ × List ℕ)))))

abbrev says_front : ℕ × (ℕ × (Window × (ℕ × Window))) → Front
says_front = (λ n. n) and (λ n. n) and extent and (λ n. n) and extent

abbrev front_octets : Front → List ℕ
front_octets = octets_be 2 before octets_be 1 before counted_octets 1 0 extent_octets before octets_be 1
    before extent_octets

abbrev FitsFront : Front → Type 0
FitsFront = FitsIn 2 also FitsIn 1 also CountFits 1 0 extent_octets IsExtent also FitsIn 1 also IsExtent

reach_front : IsReadBack IsReachFront says_front front_octets FitsFront
reach_front = delimited_fixed (are_be 2) back_then delimited_fixed (are_be 1) back_then delimited_counted extent_back
    back_then delimited_fixed (are_be 1) back_then extent_back

small_afi : (f : AfiSafiType) → FitsIn 2 (afi_number f)
small_afi family.Ipv4Unicast = omega arith
small_afi family.Ipv4Multicast = omega arith
small_afi family.Ipv6Unicast = omega arith
small_afi family.Ipv6Multicast = omega arith

small_safi : (f : AfiSafiType) → FitsIn 1 (safi_number f)
small_safi family.Ipv4Unicast = omega arith
small_safi family.Ipv4Multicast = omega arith
small_safi family.Ipv6Unicast = omega arith
small_safi family.Ipv6Multicast = omega arith

few_hops : (f : AfiSafiType) (next : NextHop) → FitsHop f next → FitsIn 1 (0 + length (hop_octets next))
few_hops f (hop.Ipv4 a) fits = let many = fits.1 in omega (arith, many)
few_hops f (hop.Ipv6 a) fits = omega (arith, fits)
few_hops f (hop.Ipv6LinkLocal a b) fits =
    let long = length-append a b in
    let first = fits.0 in
    let second = fits.1 in
    omega (arith, long, first, second)

abbrev front_of : WrittenReach → Front
front_of r = (
  afi_number r.family,
  (
    safi_number r.family,
    (extent_of (hop_octets r.next_hop), (0, extent_of (row_octets prefix_octets r.prefixes))),
  ),
)

fits_front : (r : WrittenReach) → FitsHop r.family r.next_hop → FitsFront (front_of r)
fits_front r hop = record {
  first = small_afi r.family;
  second = record {
    first = small_safi r.family;
    second = record {
      first = record {
        tag_fits = few_hops r.family r.next_hop hop;
        inside = record { inside = (refl, refl); many = refl };
      };
      second = record { first = omega arith; second = (refl, refl) };
    };
  };
}

octets_of_front : (r : WrittenReach) → front_octets (front_of r) ≡ reach_octets r
unfolding both_octets
octets_of_front r =
    let hops = hop_octets r.next_hop in
    let more = octets_be 1 0 ++ row_octets prefix_octets r.prefixes in
    let headed = λ (o : List ℕ). octets_be 2 (afi_number r.family) ++ (octets_be 1 (safi_number r.family) ++ o) in
    ap (λ o. headed (o ++ more)) (counted_is 1 extent_octets (extent_of hops))
    ∙ ap headed (append_assoc (octets_be 1 (length hops)) hops more)

pub reach_back : (s : SessionConfig) (w : Window) (r : WrittenReach) → FitsHop r.family r.next_hop
    → FitPrefixes s r.family r.prefixes → HasAll w (reach_octets r)
    → (found : Reach) × (says_reach found ≡ r) × IsReach s w found
unfolding both_say
reach_back s w r hop prefixes all =
    let f = r.family in
    let front = whole_back reach_front w (front_of r) (fits_front r hop)
    (subst (HasAll w) (sym (octets_of_front r)) all) in
    let it = front.0 in
    let tells = front.1 in
    let hops = has_extent it.1.1.0 (hop_octets r.next_hop) (ap (λ (e : Front). e.1.1.0) tells) in
    let rest = has_extent it.1.1.1.1 (row_octets prefix_octets r.prefixes) (ap (λ (e : Front). e.1.1.1.1) tells) in
    let found = nlri_back (adds_path s.add_path f) (afi_of f) it.1.1.1.1 r.prefixes prefixes rest in
    let named = same_pair (ap (λ (e : Front). e.0) tells) (same_pair (ap (λ (e : Front). e.1.0) tells) refl) in (
      record { family = f; next_hop = r.next_hop; prefixes = found.0 },
      ap (λ row. record { family = f; next_hop = r.next_hop; prefixes = row }) found.2,
      record {
        next_hops = it.1.1.0;
        reserved = it.1.1.1.0;
        rest = it.1.1.1.1;
        front = subst (Whole IsReachFront w) named front.2;
        next_hop = hop_back f it.1.1.0 r.next_hop hop hops;
        prefixes = found.1;
      },
    )

-- ---- without next hops

abbrev Short : Type 0
Short = ℕ × (ℕ × (ℕ × (ℕ × List ℕ)))

unreach_front : IsReadBack IsUnreachFront ((λ n. n) and (λ n. n) and extent)
    (octets_be 2 before octets_be 1 before extent_octets) (FitsIn 2 also FitsIn 1 also IsExtent)
unreach_front = delimited_fixed (are_be 2) back_then delimited_fixed (are_be 1) back_then extent_back

pub unreach_back : (s : SessionConfig) (w : Window) (r : WrittenUnreach) → FitPrefixes s r.family r.prefixes
    → HasAll w (unreach_octets r) → (found : Unreach) × (says_unreach found ≡ r) × IsUnreach s w found
unfolding both_say both_octets
unreach_back s w r prefixes all =
    let f = r.family in
    let octets = row_octets prefix_octets r.prefixes in
    let front = whole_back unreach_front w (afi_number f, (safi_number f, extent_of octets))
    (record { first = small_afi f; second = record { first = small_safi f; second = (refl, refl) } }) all in
    let it = front.0 in
    let tells = front.1 in
    let rest = has_extent it.1.1 octets (ap (λ (e : Short). e.1.1) tells) in
    let found = nlri_back (adds_path s.add_path f) (afi_of f) it.1.1 r.prefixes prefixes rest in
    let named = same_pair (ap (λ (e : Short). e.0) tells) (same_pair (ap (λ (e : Short). e.1.0) tells) refl) in (
      record { family = f; prefixes = found.0 },
      ap (λ row. record { family = f; prefixes = row }) found.2,
      record { rest = it.1.1; front = subst (Whole IsUnreachFront w) named front.2; prefixes = found.1 },
    )
