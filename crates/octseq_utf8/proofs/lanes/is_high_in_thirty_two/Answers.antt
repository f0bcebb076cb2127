use Rattle.std.proofs.Common.{arith}
use Rattle.std.proofs.lemmas.Bool.Decides.{nat_tests}
use Rattle.std.proofs.lemmas.Simd.{length-chunk}
use Rattle.octseq_utf8.proofs.Ascii.{lane_none}
use Rattle.octseq_utf8.proofs.lanes.is_high_in_thirty_two.Goals as goal

pub returns : goal.returns
returns c h =
    (lane_none 32 _ (length-chunk c.args.at 32 c.args.octets.now c.requires) (omega arith)).0
    (grind (arith, nat_tests, h))
