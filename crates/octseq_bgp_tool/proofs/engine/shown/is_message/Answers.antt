use Rattle.std.proofs.Common.{refl}
use Rattle.octseq_bgp_tool.proofs.engine.shown.is_message.Goals as goal

pub returns-in-Err : goal.returns-in-Err
returns-in-Err g c = c.in-Err.ensures.malformed refl
