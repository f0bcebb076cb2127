use Rattle.octseq_dns_scan.proofs.Taken.{words_once, word_once}
use Rattle.octseq_dns_scan.proofs.words.a_text_splits_in_one_way.Goals as goal

pub returns : goal.returns
returns c = record { words = words_once; first = word_once }
