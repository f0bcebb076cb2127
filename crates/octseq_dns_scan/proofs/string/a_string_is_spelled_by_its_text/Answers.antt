use Rattle.octseq_dns_scan.proofs.StringWords.{string_spelled, string_word}
use Rattle.octseq_dns_scan.proofs.string.a_string_is_spelled_by_its_text.Goals as goal

pub returns : goal.returns
returns c = record { shown = string_spelled; word = string_word }
