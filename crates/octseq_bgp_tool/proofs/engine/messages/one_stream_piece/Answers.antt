use Rattle.octseq_bgp_tool.proofs.Ends.{one_messages_end}
use Rattle.octseq_bgp_tool.proofs.OnePiece.{one_piece}
use Rattle.octseq_bgp_tool.proofs.engine.messages.one_stream_piece.Goals as goal

pub returns-clause-piece : goal.returns-clause-piece
returns-clause-piece c =
    one_piece c.one_message_piece.ensures.shown c.one_message_piece.ensures.note c.one_rewriting.ensures

pub returns-clause-end : goal.returns-clause-end
returns-clause-end c = one_messages_end
