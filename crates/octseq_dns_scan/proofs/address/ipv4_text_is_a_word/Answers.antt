use Rattle.octseq_dns_scan.proofs.Addresses.{ipv4_word}
use Rattle.octseq_dns_scan.proofs.address.ipv4_text_is_a_word.Goals as goal

pub returns : goal.returns
returns c = ipv4_word
