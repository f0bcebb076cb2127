use Rattle.std.proofs.Common.{refl, ◌∙◌, subst, arith}
use Rattle.octseq_bgp.specs.Lists.{parameter_of}
use Rattle.octseq_bgp.specs.OneOpen.{says_parameter}
use Rattle.octseq_bgp.specs.RewrittenOpen.{AreItemsSound}
use Rattle.octseq_bgp.specs.WrittenOpen.{parameter_octets}
use Rattle.octseq_bgp.proofs.AnewOpens.{parameter_kept}
use Rattle.octseq_bgp.proofs.Appending.{goes_all, goes_none, goes_on, grown, within_less}
use Rattle.octseq_bgp.proofs.RewrittenOpens.{length_fits, said_first}
use Rattle.octseq_bgp.proofs.WrittenOpens.{length_parameter}
use Rattle.octseq_bgp.proofs.message.rewriting.open.put_parameters.Goals as goal

pub parameters-init : goal.parameters-init
parameters-init g c = record {
  goes = goes_none _ _;
  sound = c.requires.sound;
  fit = c.requires.fit;
  within = c.requires.within;
  borrows = refl;
}

pub put_parameter-requires-clause-sound : goal.put_parameter-requires-clause-sound
put_parameter-requires-clause-sound g c =
    (subst AreItemsSound c.in-Some.ensures.steps c.parameters.invariant.sound).0

pub put_parameter-requires-clause-fit : goal.put_parameter-requires-clause-fit
put_parameter-requires-clause-fit g c =
    let p = says_parameter (parameter_of c.in-Some.parameter) in
    let first = said_first c.args.long c.in-Some.ensures.steps in
    let long = length_parameter c.args.long p in
    let fit = c.parameters.invariant.fit in
    length_fits c.args.long p (omega (arith, first, long, fit))

pub put_parameter-requires-clause-within : goal.put_parameter-requires-clause-within
put_parameter-requires-clause-within g c =
    let first = said_first c.args.long c.in-Some.ensures.steps in
    let long = length_parameter c.args.long (says_parameter (parameter_of c.in-Some.parameter)) in
    within_less g.B.AsOctets.limit _ _ (omega (arith, first, long)) c.parameters.invariant.within

pub parameters-preserved : goal.parameters-preserved
parameters-preserved g c =
    let so_far = c.parameters.invariant in
    let steps = c.in-Some.ensures.steps in
    let put = c.in_ok-put_parameter.ensures in
    let sound = subst AreItemsSound steps so_far.sound in
    let kept = parameter_kept (parameter_of c.in-Some.parameter) put.ok.0 sound.0 put.ok.1 in
    let same = kept.octets.long in
    let first = said_first c.args.long steps in
    let long = length_parameter c.args.long put.ok.0 in
    let content = g.B.AsOctets.content in
    let now = grown (content c.parameters.octets) (content c.put_parameter.new.octets)
    (parameter_octets c.args.long put.ok.0) put.ok.2 in
    let fit = so_far.fit in
    record {
      goes = goes_on so_far.goes steps put.ok.0 put.ok.1 put.ok.2;
      sound = sound.1;
      fit = omega (arith, first, fit);
      within = within_less g.B.AsOctets.limit _ _ (omega (arith, first, long, now, same)) so_far.within;
      borrows = put.borrows ∙ so_far.borrows;
    }

pub returns-clause-ok : goal.returns-clause-ok
returns-clause-ok g c = goes_all c.parameters.invariant.goes c.in_default.ensures.steps.0
