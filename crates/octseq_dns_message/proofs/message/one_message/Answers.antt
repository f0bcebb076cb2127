use Rattle.octseq_dns_message.proofs.Messages.{said_once}
use Rattle.octseq_dns_message.proofs.message.one_message.Goals as goal

pub returns : goal.returns
returns c = said_once
