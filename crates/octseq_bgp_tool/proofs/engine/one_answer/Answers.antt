use Rattle.octseq_cli.proofs.Naming.{one_named}
use Rattle.octseq_bgp_tool.proofs.OneAnswer.{one_output}
use Rattle.octseq_bgp_tool.proofs.Words.{same_name}
use Rattle.octseq_bgp_tool.specs.Words.{command_name}
use Rattle.octseq_bgp_tool.proofs.engine.one_answer.Goals as goal

pub returns-clause-command : goal.returns-clause-command
returns-clause-command c = one_named command_name same_name

pub returns-clause-output : goal.returns-clause-output
returns-clause-output c =
    one_output c.one_message_piece.ensures.piece c.one_stream_piece.ensures.piece c.one_record_piece.ensures.piece
    c.framed_messages_are_apart.ensures c.misframed_begins_none.ensures c.records_are_apart.ensures
