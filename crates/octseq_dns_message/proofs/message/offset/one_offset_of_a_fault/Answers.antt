use Rattle.octseq_dns_message.proofs.Stops.{one_stop}
use Rattle.octseq_dns_message.proofs.message.offset.one_offset_of_a_fault.Goals as goal

pub returns : goal.returns
returns c = one_stop
