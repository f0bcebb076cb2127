use Rattle.octseq_dns.proofs.OptRead.{opt_is_read}
use Rattle.octseq_dns.proofs.edns.an_opt_is_read_as_written.Goals as goal

pub returns : goal.returns
returns c = opt_is_read
