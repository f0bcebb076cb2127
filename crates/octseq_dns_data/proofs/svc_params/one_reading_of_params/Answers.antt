use Rattle.octseq_dns_data.proofs.Params.{one_params}
use Rattle.octseq_dns_data.proofs.svc_params.one_reading_of_params.Goals as goal

pub returns : goal.returns
returns c = one_params
