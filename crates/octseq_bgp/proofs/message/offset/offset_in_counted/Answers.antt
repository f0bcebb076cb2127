use Rattle.std.proofs.Common.{inr, refl}
use Rattle.octseq_bgp.proofs.message.offset.offset_in_counted.Goals as goal

pub returns-in-Err : goal.returns-in-Err
returns-in-Err g c = inr (c.in-Err.ensures.malformed refl, c.pos.ensures.position)
