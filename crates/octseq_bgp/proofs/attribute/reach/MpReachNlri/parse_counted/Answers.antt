use Rattle.std.proofs.Common.{ℕ, refl, sym, ap, ◌∙◌, subst}
use Rattle.octseq.specs.Parser.{window}
use Rattle.octseq.specs.Window.{Window}
use Rattle.octseq_bgp.specs.Family.{afi_number, safi_number}
use Rattle.octseq_bgp.specs.Fills.{Whole}
use Rattle.octseq_bgp.specs.NextHop.{IsNextHop}
use Rattle.octseq_bgp.specs.Prefix.{ArePrefixes}
use Rattle.octseq_bgp.specs.Value.{IsReachFront}
use Rattle.octseq_bgp.proofs.Families.{one_family}
use Rattle.octseq_bgp.proofs.Values.{one_reach_front}
use Rattle.octseq_bgp.proofs.Wholes.{one_whole}
use Rattle.octseq_bgp.proofs.attribute.reach.MpReachNlri.parse_counted.Goals as goal

pub returns-in_err-afi-clause-malformed : goal.returns-in_err-afi-clause-malformed
returns-in_err-afi-clause-malformed g c = λ _ it is.
    c.in_err-afi.ensures.malformed refl
    (afi_number it.family, (safi_number it.family, (is.next_hops, (is.reserved, is.rest)))) is.front

pub returns-in_err-next_hop-clause-malformed : goal.returns-in_err-next_hop-clause-malformed
returns-in_err-next_hop-clause-malformed g c = λ _ it is.
    let front = one_whole IsReachFront one_reach_front (window c.args.parser) _ _ is.front c.in_ok-afi.ensures.value in
    let numbers = c.in-Some.ensures.some in
    let family = one_family it.family c.in-Some.family (ap (λ f. f.0) front ∙ sym numbers.0)
    (ap (λ f. f.1.0) front ∙ sym numbers.1) in
    let moved = subst (λ f. IsNextHop f is.next_hops it.next_hop) family is.next_hop in
    c.in_err-next_hop.ensures.malformed refl it.next_hop
    (subst (λ f. IsNextHop c.in-Some.family f.1.1.0 it.next_hop) front moved)

pub returns-in_err-prefixes-clause-malformed : goal.returns-in_err-prefixes-clause-malformed
returns-in_err-prefixes-clause-malformed g c = λ _ it is.
    let s = c.args.session.now in
    let front = one_whole IsReachFront one_reach_front (window c.args.parser) _ _ is.front c.in_ok-afi.ensures.value in
    let numbers = c.in-Some.ensures.some in
    let family = one_family it.family c.in-Some.family (ap (λ f. f.0) front ∙ sym numbers.0)
    (ap (λ f. f.1.0) front ∙ sym numbers.1) in
    let moved = subst (λ f. ArePrefixes s f is.rest it.prefixes) family is.prefixes in
    c.in_err-prefixes.ensures.malformed refl it.prefixes
    (subst (λ f. ArePrefixes s c.in-Some.family f.1.1.1.1 it.prefixes) front moved)

pub returns-clause-reach : goal.returns-clause-reach
returns-clause-reach g c =
    let w = window c.args.parser in
    let numbers = c.in-Some.ensures.some in
    let parts = c.in_ok-afi in
    let family = c.in-Some.family in
    let more : Window × (ℕ × Window) = (window parts.next_hops, (parts._reserved, window parts.rest)) in
    let one = subst (λ n. Whole IsReachFront w (n, (parts.safi, more))) (sym numbers.0) parts.ensures.value in
    let both = subst (λ n. Whole IsReachFront w (afi_number family, (n, more))) (sym numbers.1) one in
    record {
      next_hops = window parts.next_hops;
      reserved = parts._reserved;
      rest = window parts.rest;
      front = both;
      next_hop = c.in_ok-next_hop.ensures.is;
      prefixes = c.in_ok-prefixes.ensures.prefixes;
    }
