use Rattle.octseq_dns_message.proofs.Edns.{one_opt}
use Rattle.octseq_dns_message.proofs.opt.one_opt.Goals as goal

pub returns : goal.returns
returns c = one_opt
