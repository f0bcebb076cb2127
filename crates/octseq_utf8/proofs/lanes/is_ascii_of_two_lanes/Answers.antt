use Rattle.std.proofs.Common.{arith}
use Rattle.std.proofs.lemmas.Bool.Decides.{nat_tests}
use Rattle.octseq_utf8.proofs.Ascii.{ends_low}
use Rattle.octseq_utf8.proofs.lanes.is_ascii_of_two_lanes.Goals as goal

pub returns-then-high_lanes-eq0-clause-low : goal.returns-then-high_lanes-eq0-clause-low
returns-then-high_lanes-eq0-clause-low c h =
    ends_low c.args.octets.now 0 16 (omega arith) (omega arith) (c.high_lanes.ensures.none.0 c.if-high_lanes-eq0.true)
    (c.high_lanes-then-high_lanes-eq0.ensures.none.0 (grind (arith, nat_tests)))
