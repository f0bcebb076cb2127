use Rattle.octseq_dns_compose.proofs.OneMessage.{message_once}
use Rattle.octseq_dns_compose.proofs.laws.a_text_is_of_one_message.Goals as goal

pub returns : goal.returns
returns c = message_once
