use Rattle.std.proofs.Common.{refl}
use Rattle.octseq_bgp_tool.proofs.engine.shown.push_shown.Goals as goal

pub returns-in_ok-push_str-in-Err : goal.returns-in_ok-push_str-in-Err
returns-in_ok-push_str-in-Err g c = (_, (c.in-Err.ensures.malformed refl, refl), c.in_ok-push_str-in-Err.ensures.ok)
