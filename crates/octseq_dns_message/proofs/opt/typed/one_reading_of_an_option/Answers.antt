use Rattle.octseq_dns_message.proofs.OptionData.{one_said}
use Rattle.octseq_dns_message.proofs.opt.typed.one_reading_of_an_option.Goals as goal

pub returns : goal.returns
returns c = one_said
