use Rattle.std.proofs.Common.{arith}
use Rattle.octseq_utf8.proofs.Search.{passes_on, search_lanes}
use Rattle.octseq_utf8.proofs.finder.skip_lanes.Goals as goal

pub loop-at-preserved : goal.loop-at-preserved
loop-at-preserved c =
    rw c.pass.ensures
    (passes_on c.loop-at.invariant (omega arith)
    (search_lanes c.args.octets.now c.loop-at.at c.loop-at.turns (omega (arith, c.saturating_sub-lanes.ensures))
    (c.is_high_in_thirty_two.ensures (grind (arith, c.if-not-is_high_in_thirty_two.true)))))
