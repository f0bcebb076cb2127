use Rattle.octseq_dns_compress.proofs.FieldSizes.{name_shorter}
use Rattle.octseq_dns_compress.proofs.laws.never_longer_than_plain.Goals as goal

pub returns : goal.returns
returns c = name_shorter
