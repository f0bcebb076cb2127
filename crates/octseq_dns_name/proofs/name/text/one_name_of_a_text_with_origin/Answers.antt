use Rattle.octseq_dns_name.proofs.Readings.{name_once_with_origin}
use Rattle.octseq_dns_name.proofs.name.text.one_name_of_a_text_with_origin.Goals as goal

pub returns : goal.returns
returns c = name_once_with_origin
