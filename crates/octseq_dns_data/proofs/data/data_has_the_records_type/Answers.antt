use Rattle.octseq_dns_data.proofs.Rdata.{said_rtype}
use Rattle.octseq_dns_data.proofs.data.data_has_the_records_type.Goals as goal

pub returns : goal.returns
returns c = said_rtype
