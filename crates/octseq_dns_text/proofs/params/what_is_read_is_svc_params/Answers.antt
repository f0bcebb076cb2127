use Rattle.octseq_dns_text.proofs.ParamsTexts.{params_svc}
use Rattle.octseq_dns_text.proofs.params.what_is_read_is_svc_params.Goals as goal

pub returns : goal.returns
returns c = params_svc
