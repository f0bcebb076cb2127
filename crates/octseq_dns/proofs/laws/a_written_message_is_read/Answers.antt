use Rattle.octseq_dns.proofs.ReadBack.{is_read_back}
use Rattle.octseq_dns.proofs.laws.a_written_message_is_read.Goals as goal

pub returns : goal.returns
returns c = is_read_back
