use Rattle.octseq_text.proofs.Settling as Settling
use Rattle.octseq_text.proofs.str.laws.one_settling.Goals as goal

pub returns-clause-exists : goal.returns-clause-exists
returns-clause-exists c = Settling.settling

pub returns-clause-only : goal.returns-clause-only
returns-clause-only c = λ octets end last settled others s t. Settling.one_settling s t

pub returns-clause-front : goal.returns-clause-front
returns-clause-front c = λ octets end settled parts s t. Settling.settled_front s t
