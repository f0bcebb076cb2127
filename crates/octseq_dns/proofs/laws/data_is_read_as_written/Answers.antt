use Rattle.octseq_dns.proofs.RdataRead.{data_is_read}
use Rattle.octseq_dns.proofs.laws.data_is_read_as_written.Goals as goal

pub returns : goal.returns
returns c = data_is_read
