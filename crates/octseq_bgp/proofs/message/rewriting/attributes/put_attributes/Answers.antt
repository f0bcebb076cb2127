use Rattle.std.proofs.Common.{refl, ◌∙◌, subst, arith}
use Rattle.octseq.specs.Parser.{window}
use Rattle.octseq.specs.Window.{left}
use Rattle.octseq_bgp.specs.Lists.{attribute_of, attributes_left}
use Rattle.octseq_bgp.specs.Rewritten.{AreSound, IsAttributeAnew}
use Rattle.octseq_bgp.specs.Written.{attribute_octets}
use Rattle.octseq_bgp.proofs.Appending.{goes_all, goes_none, goes_on, grown, within_less}
use Rattle.octseq_bgp.proofs.Rewriting.{anew_long, size_first, size_least}
use Rattle.octseq_bgp.proofs.message.rewriting.attributes.put_attributes.Goals as goal

pub attributes-init : goal.attributes-init
attributes-init g c = record {
  session = refl;
  goes = goes_none _ _;
  few = c.requires.few;
  sound = c.requires.sound;
  within = c.requires.within;
  borrows = refl;
}

pub put_attribute-requires-clause-few : goal.put_attribute-requires-clause-few
put_attribute-requires-clause-few g c =
    let first = size_first (attributes_left c.attributes.ahead) (attributes_left c.next.new.self)
    (attribute_of c.in-Some.attribute) c.in-Some.ensures.steps.0 in
    let least = size_least (left (window c.in-Some.attribute.value)) in
    let few = c.attributes.invariant.few in
    omega (arith, first, least, few)

pub put_attribute-requires-clause-sound : goal.put_attribute-requires-clause-sound
put_attribute-requires-clause-sound g c = (subst AreSound c.in-Some.ensures.steps.0 c.attributes.invariant.sound).0

pub put_attribute-requires-clause-within : goal.put_attribute-requires-clause-within
put_attribute-requires-clause-within g c =
    let first = size_first (attributes_left c.attributes.ahead) (attributes_left c.next.new.self)
    (attribute_of c.in-Some.attribute) c.in-Some.ensures.steps.0 in
    within_less g.B.AsOctets.limit _ _ (omega (arith, first)) c.attributes.invariant.within

pub attributes-preserved : goal.attributes-preserved
attributes-preserved g c =
    let so_far = c.attributes.invariant in
    let a = attribute_of c.in-Some.attribute in
    let steps = c.in-Some.ensures.steps in
    let put = c.in_ok-put_attribute.ensures.ok in
    let is = subst (λ s. IsAttributeAnew s a put.0) (steps.2 ∙ so_far.session) put.1 in
    let sound = subst AreSound steps.0 so_far.sound in
    let first = size_first (attributes_left c.attributes.ahead) (attributes_left c.next.new.self) a steps.0 in
    let long = anew_long _ a put.0 sound.0 put.1 in
    let content = g.B.AsOctets.content in
    let now = grown (content c.attributes.builder) (content c.put_attribute.new.builder) (attribute_octets put.0)
    put.2 in
    let few = so_far.few in
    record {
      session = steps.1 ∙ so_far.session;
      goes = goes_on so_far.goes steps.0 put.0 is put.2;
      few = omega (arith, first, few);
      sound = sound.1;
      within = within_less g.B.AsOctets.limit _ _ (omega (arith, first, long, now)) so_far.within;
      borrows = c.put_attribute.ensures.borrows ∙ so_far.borrows;
    }

pub returns-clause-ok : goal.returns-clause-ok
returns-clause-ok g c = goes_all c.attributes.invariant.goes c.in_default.ensures.steps.0.0
