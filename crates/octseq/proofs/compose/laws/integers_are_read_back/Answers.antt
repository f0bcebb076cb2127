use Rattle.octseq.proofs.WindowsAfter.{be_comes_next, le_comes_next}
use Rattle.octseq.proofs.Written.{signed_unsigned}
use Rattle.octseq.proofs.compose.laws.integers_are_read_back.Goals as goal

pub returns-clause-be : goal.returns-clause-be
returns-clause-be c = be_comes_next

pub returns-clause-le : goal.returns-clause-le
returns-clause-le c = le_comes_next

pub returns-clause-signed : goal.returns-clause-signed
returns-clause-signed c = signed_unsigned
