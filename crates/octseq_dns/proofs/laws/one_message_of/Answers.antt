use Rattle.octseq_dns.proofs.Stages.{one_contents}
use Rattle.octseq_dns.proofs.laws.one_message_of.Goals as goal

pub returns : goal.returns
returns c = one_contents
