use Rattle.octseq_dns_scan.proofs.Spellings.{string_once}
use Rattle.octseq_dns_scan.proofs.string.one_string_of_a_word.Goals as goal

pub returns : goal.returns
returns c = string_once
