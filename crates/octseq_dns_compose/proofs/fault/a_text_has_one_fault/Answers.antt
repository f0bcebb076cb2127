use Rattle.octseq_dns_compose.specs.MessageText.{IsAnyText}
use Rattle.octseq_dns_compose.proofs.OneFault.{one_line_fault}
use Rattle.octseq_dns_compose.proofs.fault.a_text_has_one_fault.Goals as goal

pub returns : goal.returns
returns c = one_line_fault IsAnyText
