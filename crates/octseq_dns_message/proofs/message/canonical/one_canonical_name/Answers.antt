use Rattle.octseq_dns_message.proofs.Aliases.{one_canonical}
use Rattle.octseq_dns_message.proofs.message.canonical.one_canonical_name.Goals as goal

pub returns : goal.returns
returns c = one_canonical
