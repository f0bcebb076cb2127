use Rattle.octseq_dns_text.proofs.OneReading.{data_one}
use Rattle.octseq_dns_text.proofs.data.one_reading_of_data_text.Goals as goal

pub returns : goal.returns
returns c = data_one
