use Rattle.std.proofs.Common.{rules, [], ◌++◌, codes, refl, sym, subst, append_assoc, append-nil}
use Rattle.std.proofs.Output.{has_written_append, has_written_of_eq}
use Rattle.octseq_bgp.specs.CapabilityOf.{capabilities_left}
use Rattle.octseq_bgp.specs.MessageText.{AreCapabilityLines}
use Rattle.octseq_bgp.specs.CapabilityOf.{capability_value_of}
use Rattle.octseq_bgp.specs.CapabilityText.{capability_text}
use Rattle.octseq_bgp.specs.MessageText.{line}
use Rattle.octseq_bgp.proofs.text.lines.write_capabilities.Goals as goal

pub loop-capability-init : goal.loop-capability-init
loop-capability-init g c = record {
  done = [];
  written = search rules;
  whole = λ more text. subst
      (λ row. AreCapabilityLines
      (capabilities_left row) more) c.into_iter-capability-iterator.ensures.into_iter_gives text;
}

pub loop-capability-preserved : goal.loop-capability-preserved
loop-capability-preserved g c =
    let so_far = c.loop-capability.invariant in
    let text = line (codes "capability")
    (capability_text c.in-Some.capability.code (capability_value_of c.value-value.result)) in
    record {
      done = so_far.done ++ text;
      written = λ plain. has_written_append _ _ _ _ _ _ (so_far.written plain) (search rules);
      whole = λ more is.
          let ahead = subst (λ row. AreCapabilityLines row (text ++ more)) (sym c.in-Some.ensures.steps)
          (capability_value_of c.value-value.result, more, c.value-value.ensures, is, refl) in
          subst (AreCapabilityLines (capabilities_left c.args.capabilities))
          (sym (append_assoc so_far.done text more)) (so_far.whole (text ++ more) ahead);
    }

pub returns : goal.returns
returns g c =
    let so_far = c.loop-capability.invariant in
    let none = subst (λ row. AreCapabilityLines row []) (sym c.in-None.ensures.steps.0) refl in (
      so_far.done ++ [],
      so_far.whole [] none,
      λ plain. has_written_of_eq _ _ _ _ _ (sym (append-nil so_far.done)) (so_far.written plain),
    )
