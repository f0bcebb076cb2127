-- What is written, and any lines of what is ahead, are lines of all.
use Rattle.std.proofs.Common.{◌++◌, ℕ, List}
use Rattle.std.specs.Fmt.{HasWritten, IsPlainFormatter}
use Rattle.octseq_bgp.specs.Lists.{parameters_left}
use Rattle.octseq_bgp.specs.MessageText.{AreParameterLines}
use Rattle.octseq_bgp.proofs.text.lines.write_parameters.Given as goal

abbrev pub invariant-loop-parameter : goal.invariant-loop-parameter
invariant-loop-parameter g l = record {
  done : List ℕ;
  written : IsPlainFormatter l.initial.f → HasWritten g.W.Write.write_str_gives l.initial.f done l.f;
  whole : (more : List ℕ) → AreParameterLines (parameters_left l.parameter-iterator) more
      → AreParameterLines (parameters_left l.fn.parameters) (done ++ more);
}
