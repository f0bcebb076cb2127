use Rattle.octseq.proofs.Windows.{next_and_rest}
use Rattle.octseq.proofs.parse.laws.nothing_is_lost.Goals as goal

pub returns : goal.returns
returns c = next_and_rest
