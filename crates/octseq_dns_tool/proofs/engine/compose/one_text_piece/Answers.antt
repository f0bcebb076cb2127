use Rattle.octseq_dns_tool.proofs.OneText as texts
use Rattle.octseq_dns_tool.proofs.engine.compose.one_text_piece.Goals as goal

pub returns : goal.returns
returns c =
    texts.one_text_piece c.a_text_is_of_one_message.ensures c.a_text_has_one_fault.ensures
    c.a_refused_text_is_no_message.ensures
