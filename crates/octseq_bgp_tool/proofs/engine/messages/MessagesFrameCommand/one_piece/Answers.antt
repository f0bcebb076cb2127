use Rattle.octseq_bgp_tool.proofs.engine.messages.MessagesFrameCommand.one_piece.Goals as goal

pub returns : goal.returns
returns c = c.one_stream_piece.ensures.piece c.args.self.output c.args.self.session
