use Rattle.octseq_dns_message.proofs.MessageTexts.{one_message_text}
use Rattle.octseq_dns_message.proofs.message.text.one_text_of_a_message.Goals as goal

pub returns : goal.returns
returns c = one_message_text
