use Rattle.std.proofs.Common.{arith}
use Rattle.std.proofs.lemmas.Simd.{length-chunk}
use Rattle.octseq_utf8.proofs.Ascii.{mask_is, lane_none}
use Rattle.octseq_utf8.proofs.lanes.high_lanes.Goals as goal

pub returns : goal.returns
returns c =
    let long = length-chunk c.args.at 16 c.args.octets.now c.requires in
    record { mask = mask_is 16 _ long (omega arith); none = lane_none 16 _ long (omega arith) }
