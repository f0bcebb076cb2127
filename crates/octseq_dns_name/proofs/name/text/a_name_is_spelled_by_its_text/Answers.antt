use Rattle.octseq_dns_name.proofs.Spellings.{name_spelled}
use Rattle.octseq_dns_name.proofs.name.text.a_name_is_spelled_by_its_text.Goals as goal

pub returns : goal.returns
returns c = name_spelled
