use Rattle.std.proofs.Common.{◌≤◌, ◌++◌, length-append, arith}
use Rattle.std.proofs.KnownBytes.{Consumes-trans}
use Rattle.octseq_stream.proofs.read_exact.append_octets.Goals as goal
use Rattle.octseq_stream.proofs.read_exact.append_octets.Goals.{then-left-lt-STEP, else-left-lt-STEP}
use Rattle.octseq.proofs.Errors.{on_err}

pub returns-in_err-count-clause-err : goal.returns-in_err-count-clause-err
returns-in_err-count-clause-err g c =
    let so_far = c.steps.invariant in
    let more = c.in_err-count.ensures.err in
    let step : c.if-left-lt-STEP.step ≤ c.steps.left = elim c.if-left-lt-STEP.branch [
      | then-left-lt-STEP w ↦ let is = w.step-is in omega (arith, is)
      | else-left-lt-STEP w ↦ let is = w.step-is in let not = w.if-left-lt-STEP.false in omega (arith, is, not)
    ] in
    let all = so_far.1 in
    let few = more.1 in
    let both = length-append so_far.0 more.0 in
    on_err c.from_residual.result (
      so_far.0 ++ more.0,
      omega (arith, all, few, both, step),
      Consumes-trans (g.R.Read.remaining c.args.reader.now) (g.R.Read.remaining c.steps.reader)
          (g.R.Read.remaining c.append_step.new.reader) so_far.0 more.0 so_far.3 more.2,
    )
