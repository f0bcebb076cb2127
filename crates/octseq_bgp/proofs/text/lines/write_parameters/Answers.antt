use Rattle.std.proofs.Common.{rules, [], ◌++◌, refl, sym, subst, append_assoc, append-nil}
use Rattle.std.proofs.Output.{has_written_append, has_written_of_eq}
use Rattle.octseq_bgp.specs.CapabilityOf.{parameter_value_of}
use Rattle.octseq_bgp.specs.Lists.{parameters_left}
use Rattle.octseq_bgp.specs.MessageText.{AreParameterLines}
use Rattle.octseq_bgp.proofs.text.lines.write_parameters.Goals as goal

pub loop-parameter-init : goal.loop-parameter-init
loop-parameter-init g c = record {
  done = [];
  written = search rules;
  whole = λ more text. subst (λ row. AreParameterLines (parameters_left row) more)
      c.into_iter-parameter-iterator.ensures.into_iter_gives text;
}

pub loop-parameter-preserved : goal.loop-parameter-preserved
loop-parameter-preserved g c =
    let so_far = c.loop-parameter.invariant in
    let here = c.in_ok-write_parameter.ensures in
    record {
      done = so_far.done ++ here.0;
      written = λ plain.
          let before = so_far.written plain in
          has_written_append _ _ _ _ _ _ before (here.2 before.plain);
      whole = λ more is.
          let ahead = subst (λ row. AreParameterLines row (here.0 ++ more)) (sym c.in-Some.ensures.steps)
          (parameter_value_of c.value-value.result, here.0, more, c.value-value.ensures, here.1, is, refl) in
          subst (AreParameterLines (parameters_left c.args.parameters)) (sym (append_assoc so_far.done here.0 more))
          (so_far.whole (here.0 ++ more) ahead);
    }

pub returns : goal.returns
returns g c =
    let so_far = c.loop-parameter.invariant in
    let none = subst (λ row. AreParameterLines row []) (sym c.in-None.ensures.steps.0) refl in (
      so_far.done ++ [],
      so_far.whole [] none,
      λ plain. has_written_of_eq _ _ _ _ _ (sym (append-nil so_far.done)) (so_far.written plain),
    )
