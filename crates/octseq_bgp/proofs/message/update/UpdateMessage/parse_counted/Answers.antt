use Rattle.std.proofs.Common.{refl, subst}
use Rattle.octseq.specs.Parser.{window}
use Rattle.octseq_bgp.specs.Parts.{IsAttribute}
use Rattle.octseq_bgp.specs.Fills.{Fills}
use Rattle.octseq_bgp.specs.Parsed.{update_parts_of}
use Rattle.octseq_bgp.specs.Prefix.{ArePrefixes}
use Rattle.octseq_bgp.specs.Update.{IsUpdateParts}
use Rattle.octseq_bgp.specs.declared.family.AfiSafiType.TheVariants as family
use Rattle.octseq_bgp.proofs.OneMessage.{one_parts}
use Rattle.octseq_bgp.proofs.Wholes.{one_whole}
use Rattle.octseq_bgp.proofs.message.update.UpdateMessage.parse_counted.Goals as goal

pub returns-in_err-parts-clause-malformed : goal.returns-in_err-parts-clause-malformed
returns-in_err-parts-clause-malformed g c = λ _ u is. c.in_err-parts.ensures.malformed refl is.parts is.are

pub returns-in_err-withdrawn-clause-malformed : goal.returns-in_err-withdrawn-clause-malformed
returns-in_err-withdrawn-clause-malformed g c = λ _ u is.
    let same = one_whole IsUpdateParts one_parts (window c.args.parser) is.parts
    (update_parts_of c.in_ok-parts.parts) is.are
    c.in_ok-parts.ensures.parts in
    c.in_err-withdrawn.ensures.malformed refl u.withdrawn
    (subst (λ p. ArePrefixes c.args.session family.Ipv4Unicast p.0 u.withdrawn) same is.withdrawn)

pub returns-in_err-path_attributes-clause-malformed : goal.returns-in_err-path_attributes-clause-malformed
returns-in_err-path_attributes-clause-malformed g c = λ _ u is.
    let same = one_whole IsUpdateParts one_parts (window c.args.parser) is.parts
    (update_parts_of c.in_ok-parts.parts) is.are
    c.in_ok-parts.ensures.parts in
    c.in_err-path_attributes.ensures.malformed refl u.attributes
    (subst (λ p. Fills IsAttribute p.1.0 u.attributes) same is.attributes)

pub returns-in_err-announced-clause-malformed : goal.returns-in_err-announced-clause-malformed
returns-in_err-announced-clause-malformed g c = λ _ u is.
    let same = one_whole IsUpdateParts one_parts (window c.args.parser) is.parts
    (update_parts_of c.in_ok-parts.parts) is.are
    c.in_ok-parts.ensures.parts in
    c.in_err-announced.ensures.malformed refl u.announced
    (subst (λ p. ArePrefixes c.args.session family.Ipv4Unicast p.1.1 u.announced) same is.announced)

pub returns-clause-update : goal.returns-clause-update
returns-clause-update g c = record {
  parts = update_parts_of c.in_ok-parts.parts;
  are = c.in_ok-parts.ensures.parts;
  of_session = c.in_ok-path_attributes.ensures.session;
  withdrawn = c.in_ok-withdrawn.ensures.prefixes;
  attributes = c.in_ok-path_attributes.ensures.attributes;
  announced = c.in_ok-announced.ensures.prefixes;
}
