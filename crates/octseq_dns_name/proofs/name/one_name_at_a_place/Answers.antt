use Rattle.octseq_dns_name.specs.OneName.{one_name}
use Rattle.octseq_dns_name.proofs.name.one_name_at_a_place.Goals as goal

pub returns : goal.returns
returns c = one_name
