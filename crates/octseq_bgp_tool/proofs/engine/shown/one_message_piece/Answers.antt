use Rattle.octseq_bgp_tool.proofs.OnePiece as pieces
use Rattle.octseq_bgp_tool.proofs.engine.shown.one_message_piece.Goals as goal

pub returns-clause-shown : goal.returns-clause-shown
returns-clause-shown c = pieces.one_shown c.one_message.ensures c.one_text.ensures

pub returns-clause-note : goal.returns-clause-note
returns-clause-note c = pieces.one_note c.one_stop.ensures

pub returns-clause-piece : goal.returns-clause-piece
returns-clause-piece c =
    pieces.one_message_piece (pieces.one_shown c.one_message.ensures c.one_text.ensures)
    (pieces.one_note c.one_stop.ensures)
