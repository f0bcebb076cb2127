use Rattle.octseq_bgp_tool.proofs.OneAnswer.{one_records_end}
use Rattle.octseq_bgp_tool.proofs.OneRecord.{one_piece}
use Rattle.octseq_bgp_tool.proofs.engine.records.one_record_piece.Goals as goal

pub returns-clause-piece : goal.returns-clause-piece
returns-clause-piece c =
    one_piece c.one_record.ensures c.one_record_value.ensures c.one_record_text.ensures
    c.one_message_piece.ensures.note

pub returns-clause-end : goal.returns-clause-end
returns-clause-end c = one_records_end
