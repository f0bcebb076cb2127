use Rattle.octseq_dns_text.proofs.TypesTexts.{type_utf8}
use Rattle.octseq_dns_compose.proofs.numbers.scan_rtype.Goals as goal

pub returns-in-Err-clause-none : goal.returns-in-Err-clause-none
returns-in-Err-clause-none c = λ _ number is. c.in-Err.ensures.cases.0 (type_utf8 _ number is)
