use Rattle.octseq_dns_tool.proofs.OneAnswer.{one_end}
use Rattle.octseq_dns_tool.proofs.OnePiece.{one_piece}
use Rattle.octseq_dns_tool.proofs.engine.stream.one_stream_piece.Goals as goal

pub returns-clause-piece : goal.returns-clause-piece
returns-clause-piece c =
    one_piece c.one_message.ensures c.one_message_of.ensures c.one_message_piece.ensures.shown

pub returns-clause-end : goal.returns-clause-end
returns-clause-end c = one_end
