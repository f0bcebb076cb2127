use Rattle.std.proofs.Common.{refl, sym, ap, ◌∙◌, subst}
use Rattle.octseq.specs.Parser.{window}
use Rattle.octseq_bgp.specs.Family.{afi_number, safi_number}
use Rattle.octseq_bgp.specs.Prefix.{ArePrefixes}
use Rattle.octseq_bgp.specs.Value.{IsUnreachFront}
use Rattle.octseq_bgp.proofs.Families.{one_family}
use Rattle.octseq_bgp.proofs.Values.{one_unreach_front}
use Rattle.octseq_bgp.proofs.Wholes.{one_whole}
use Rattle.octseq_bgp.proofs.attribute.reach.MpUnreachNlri.parse_counted.Goals as goal

pub returns-in_err-afi-clause-malformed : goal.returns-in_err-afi-clause-malformed
returns-in_err-afi-clause-malformed g c = λ _ it is.
    c.in_err-afi.ensures.malformed refl (afi_number it.family, (safi_number it.family, is.rest)) is.front

pub returns-in_err-prefixes-clause-malformed : goal.returns-in_err-prefixes-clause-malformed
returns-in_err-prefixes-clause-malformed g c = λ _ it is.
    let s = c.args.session.now in
    let front = one_whole IsUnreachFront one_unreach_front
    (window c.args.parser) _ _ is.front c.in_ok-afi.ensures.value in
    let numbers = c.in-Some.ensures.some in
    let family = one_family it.family c.in-Some.family (ap (λ f. f.0) front ∙ sym numbers.0)
    (ap (λ f. f.1.0) front ∙ sym numbers.1) in
    let moved = subst (λ f. ArePrefixes s f is.rest it.prefixes) family is.prefixes in
    c.in_err-prefixes.ensures.malformed refl it.prefixes
    (subst (λ f. ArePrefixes s c.in-Some.family f.1.1 it.prefixes) front moved)
