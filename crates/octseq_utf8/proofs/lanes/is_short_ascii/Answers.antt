use Rattle.std.proofs.Common.{arith}
use Rattle.octseq_utf8.proofs.Ascii.{ends_low}
use Rattle.octseq_utf8.proofs.lanes.is_short_ascii.Goals as goal

pub returns-then-not-is_high_in_four : goal.returns-then-not-is_high_in_four
returns-then-not-is_high_in_four c h =
    ends_low c.args.octets.now c.args.from 4 (omega arith) (omega arith)
    (c.is_high_in_four.ensures (grind (arith, c.if-not-is_high_in_four.true)))
    (c.is_high_in_four-then-not-is_high_in_four.ensures (grind (arith, h)))

pub returns-then-not-is_high_in_eight : goal.returns-then-not-is_high_in_eight
returns-then-not-is_high_in_eight c h =
    ends_low c.args.octets.now c.args.from 8 (omega arith) (omega arith)
    (c.is_high_in_eight.ensures (grind (arith, c.if-not-is_high_in_eight.true)))
    (c.is_high_in_eight-then-not-is_high_in_eight.ensures (grind (arith, h)))
