use Rattle.octseq_tool.proofs.OneAnswer.{one_command, one_output}
use Rattle.octseq_tool.proofs.engine.one_answer.Goals as goal

pub returns-clause-command : goal.returns-clause-command
returns-clause-command c = one_command

pub returns-clause-output : goal.returns-clause-output
returns-clause-output c = one_output c.one_fault.ensures.only c.one_fault.ensures.refutes c.one_splitting.ensures.only
