use Rattle.octseq_dns_scan.proofs.Taken.{taken_space, taken_end}
use Rattle.octseq_dns_scan.proofs.words.a_word_is_taken_before_a_space.Goals as goal

pub returns : goal.returns
returns c = record { space = taken_space; end = taken_end }
