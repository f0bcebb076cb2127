use Rattle.octseq_dns.proofs.ReadBack.{never_longer}
use Rattle.octseq_dns.proofs.laws.never_longer_than_uncompressed.Goals as goal

pub returns : goal.returns
returns c = never_longer
