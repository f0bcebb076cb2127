use Rattle.octseq_dns_scan.proofs.Calendar.{time_once}
use Rattle.octseq_dns_scan.proofs.time.one_time_of_a_word.Goals as goal

pub returns : goal.returns
returns c = time_once
