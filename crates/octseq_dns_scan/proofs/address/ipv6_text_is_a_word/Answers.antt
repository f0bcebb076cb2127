use Rattle.octseq_dns_scan.proofs.Addresses.{ipv6_word}
use Rattle.octseq_dns_scan.proofs.address.ipv6_text_is_a_word.Goals as goal

pub returns : goal.returns
returns c = ipv6_word
