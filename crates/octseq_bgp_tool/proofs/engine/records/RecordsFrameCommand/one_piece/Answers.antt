use Rattle.octseq_bgp_tool.proofs.engine.records.RecordsFrameCommand.one_piece.Goals as goal

pub returns : goal.returns
returns c = c.one_record_piece.ensures.piece c.args.self
