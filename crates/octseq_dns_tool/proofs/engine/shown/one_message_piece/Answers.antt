use Rattle.octseq_dns_tool.proofs.OnePiece as pieces
use Rattle.octseq_dns_tool.proofs.engine.shown.one_message_piece.Goals as goal

pub returns-clause-shown : goal.returns-clause-shown
returns-clause-shown c = pieces.one_shown c.one_message.ensures c.one_text_of_a_message.ensures

pub returns-clause-piece : goal.returns-clause-piece
returns-clause-piece c = pieces.one_message_piece c.one_message.ensures c.one_text_of_a_message.ensures
