use Rattle.octseq_dns_data.proofs.Rdata.{one_said}
use Rattle.octseq_dns_data.proofs.data.one_reading_of_data.Goals as goal

pub returns : goal.returns
returns c = one_said
