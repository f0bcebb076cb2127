use Rattle.octseq_dns_text.proofs.TypesTexts.{type_utf8}
use Rattle.octseq_dns_text.proofs.types.scan_type.Goals as goal

pub returns-in-Err-clause-none : goal.returns-in-Err-clause-none
returns-in-Err-clause-none c = λ rtype reads. c.in-Err.ensures.cases.0 (type_utf8 c.args.word.now rtype reads)
