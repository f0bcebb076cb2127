use Rattle.octseq_bgp_tool.proofs.OneAnswer.{code_of, none_at_records_end}
use Rattle.octseq_mrt.specs.Records.{IsRecordOctets}
use Rattle.octseq_bgp_tool.proofs.engine.records.RecordsStreamCommand.one_end.Goals as goal

pub returns-clause-apart : goal.returns-clause-apart
returns-clause-apart c = code_of IsRecordOctets c.records_are_apart.ensures

pub returns-clause-rest : goal.returns-clause-rest
returns-clause-rest c = none_at_records_end c.args.self
