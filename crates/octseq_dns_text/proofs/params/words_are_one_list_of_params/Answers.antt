use Rattle.octseq_dns_text.proofs.ParamsTexts.{params_once}
use Rattle.octseq_dns_text.proofs.params.words_are_one_list_of_params.Goals as goal

pub returns : goal.returns
returns c = params_once
