use Rattle.octseq_dns_scan.proofs.Taken.{plain_word, escaped_word, joined_word}
use Rattle.octseq_dns_scan.proofs.words.what_a_word_is_made_of.Goals as goal

pub returns : goal.returns
returns c = record { plain = plain_word; escaped = escaped_word; joined = joined_word }
