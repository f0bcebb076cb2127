use Rattle.octseq_text.proofs.OneTextRun as OneRun
use Rattle.octseq_text.proofs.str.laws.one_run.Goals as goal

pub returns-clause-alike : goal.returns-clause-alike
returns-clause-alike c = OneRun.one_run

pub returns-clause-without_memory : goal.returns-clause-without_memory
returns-clause-without_memory c = OneRun.without_memory
