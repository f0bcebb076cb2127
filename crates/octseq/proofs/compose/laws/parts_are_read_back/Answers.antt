use Rattle.octseq.proofs.WindowsAfter.{part_comes_next}
use Rattle.octseq.proofs.compose.laws.parts_are_read_back.Goals as goal

pub returns : goal.returns
returns c = part_comes_next
