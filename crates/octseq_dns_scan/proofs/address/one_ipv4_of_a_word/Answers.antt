use Rattle.octseq_dns_scan.proofs.Addresses.{one_ipv4}
use Rattle.octseq_dns_scan.proofs.address.one_ipv4_of_a_word.Goals as goal

pub returns : goal.returns
returns c = one_ipv4
