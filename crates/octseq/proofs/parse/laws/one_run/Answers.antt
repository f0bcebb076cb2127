use Rattle.octseq.proofs.OneWindowRun.{one_replies}
use Rattle.octseq.proofs.parse.laws.one_run.Goals as goal

pub returns : goal.returns
returns c = one_replies
