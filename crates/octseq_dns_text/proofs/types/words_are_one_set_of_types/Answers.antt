use Rattle.octseq_dns_text.proofs.TypesTexts.{types_once}
use Rattle.octseq_dns_text.proofs.types.words_are_one_set_of_types.Goals as goal

pub returns : goal.returns
returns c = types_once
