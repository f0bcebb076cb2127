use Rattle.std.proofs.Common.{rules}
use Rattle.octseq_c.proofs.Reported.{is_its_end, past_none}
use Rattle.octseq_c.proofs.pieces.is_open_end.Goals as goal

pub returns-in-Some : goal.returns-in-Some
returns-in-Some c = search (rules, is_its_end _ _ c.in-Some.ensures.measured)

pub returns-in-None : goal.returns-in-None
returns-in-None c = search (rules, past_none _ c.in-None.ensures.past)
