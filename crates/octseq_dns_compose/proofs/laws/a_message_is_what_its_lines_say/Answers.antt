use Rattle.octseq_dns_compose.proofs.ComposedMessages.{messages_of}
use Rattle.octseq_dns_compose.proofs.laws.a_message_is_what_its_lines_say.Goals as goal

pub returns : goal.returns
returns c = messages_of
