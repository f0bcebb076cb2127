use Rattle.octseq_dns_data.proofs.Params.{one_keys}
use Rattle.octseq_dns_data.proofs.svc_params.one_reading_of_keys.Goals as goal

pub returns : goal.returns
returns c = one_keys
