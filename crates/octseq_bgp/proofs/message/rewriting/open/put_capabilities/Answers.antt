use Rattle.std.proofs.Common.{false, refl, ◌∙◌, subst, arith}
use Rattle.octseq_bgp.specs.CapabilityOf.{capability_of}
use Rattle.octseq_bgp.specs.OneOpen.{says_parameter}
use Rattle.octseq_bgp.specs.RewrittenOpen.{AreItemsSound}
use Rattle.octseq_bgp.specs.WrittenOpen.{parameter_octets}
use Rattle.octseq_bgp.proofs.AnewOpens.{capability_kept}
use Rattle.octseq_bgp.proofs.Appending.{goes_all, goes_none, goes_on, grown, within_less}
use Rattle.octseq_bgp.proofs.RewrittenOpens.{said_first}
use Rattle.octseq_bgp.proofs.WrittenOpens.{length_parameter}
use Rattle.octseq_bgp.proofs.message.rewriting.open.put_capabilities.Goals as goal

pub capabilities-init : goal.capabilities-init
capabilities-init g c =
    record { goes = goes_none _ _; sound = c.requires.sound; within = c.requires.within; borrows = refl }

pub put_capability-requires-clause-sound : goal.put_capability-requires-clause-sound
put_capability-requires-clause-sound g c =
    (subst AreItemsSound c.in-Some.ensures.steps c.capabilities.invariant.sound).0

pub put_capability-requires-clause-within : goal.put_capability-requires-clause-within
put_capability-requires-clause-within g c =
    let first = said_first false c.in-Some.ensures.steps in
    let long = length_parameter false (says_parameter (capability_of c.in-Some.capability)) in
    within_less g.B.AsOctets.limit _ _ (omega (arith, first, long)) c.capabilities.invariant.within

pub capabilities-preserved : goal.capabilities-preserved
capabilities-preserved g c =
    let so_far = c.capabilities.invariant in
    let steps = c.in-Some.ensures.steps in
    let put = c.in_ok-put_capability.ensures in
    let sound = subst AreItemsSound steps so_far.sound in
    let kept = capability_kept (capability_of c.in-Some.capability) put.ok.0 sound.0 put.ok.1 in
    let same = kept.octets.long in
    let first = said_first false steps in
    let long = length_parameter false put.ok.0 in
    let content = g.B.AsOctets.content in
    let now = grown (content c.capabilities.octets) (content c.put_capability.new.octets)
    (parameter_octets false put.ok.0) put.ok.2 in
    record {
      goes = goes_on so_far.goes steps put.ok.0 put.ok.1 put.ok.2;
      sound = sound.1;
      within = within_less g.B.AsOctets.limit _ _ (omega (arith, first, long, now, same)) so_far.within;
      borrows = put.borrows ∙ so_far.borrows;
    }

pub returns-clause-ok : goal.returns-clause-ok
returns-clause-ok g c = goes_all c.capabilities.invariant.goes c.in_default.ensures.steps.0
