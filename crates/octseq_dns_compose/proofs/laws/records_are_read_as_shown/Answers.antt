use Rattle.octseq_dns_compose.proofs.ShownRecords.{question_shown, record_shown}
use Rattle.octseq_dns_compose.proofs.laws.records_are_read_as_shown.Goals as goal

pub returns-clause-record : goal.returns-clause-record
returns-clause-record c = record_shown

pub returns-clause-question : goal.returns-clause-question
returns-clause-question c = question_shown
