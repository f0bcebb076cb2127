use Rattle.octseq.proofs.Codes.{part_code}
use Rattle.octseq_dns_tool.proofs.OneAnswer.{none_at_end}
use Rattle.octseq_dns_tool.proofs.engine.stream.MessagesStreamCommand.one_end.Goals as goal

pub returns-clause-apart : goal.returns-clause-apart
returns-clause-apart c = part_code 2

pub returns-clause-rest : goal.returns-clause-rest
returns-clause-rest c = none_at_end c.args.self
