use Rattle.octseq_dns_data.proofs.Texts.{address_is_text}
use Rattle.octseq_dns_data.proofs.data.zero_groups_are_shortened.Goals as goal

pub returns : goal.returns
returns c = address_is_text
