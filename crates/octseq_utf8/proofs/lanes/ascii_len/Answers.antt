use Rattle.std.proofs.Common.{drop, length-drop, arith, subst, ◌≤◌}
use Rattle.std.proofs.lemmas.List.{get_or-drop}
use Rattle.octseq_utf8.proofs.Ascii.{before_high}
use Rattle.octseq_utf8.proofs.lanes.ascii_len.Goals as goal

pub returns : goal.returns
returns c =
    let x = drop c.args.at c.args.octets.now in
    let before = before_high x c.high_lanes-high.result (omega (arith, length-drop c.args.at c.args.octets.now))
    c.high_lanes-high.ensures.mask c.if-high-eq0.false in
    record {
      few = omega (arith, before.few);
      low = before.low;
      high = λ h. subst (λ o. 128 ≤ o) (get_or-drop c.args.at c.args.octets.now _ 0) before.high;
    }
