use Rattle.octseq_dns_compress.proofs.LabelsThere.{name_is_read}
use Rattle.octseq_dns_compress.proofs.laws.a_compressed_name_is_read.Goals as goal

pub returns : goal.returns
returns c = name_is_read
