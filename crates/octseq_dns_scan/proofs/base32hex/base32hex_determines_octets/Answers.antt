use Rattle.octseq_dns_scan.proofs.Base32hexTexts.{base32hex_same}
use Rattle.octseq_dns_scan.proofs.base32hex.base32hex_determines_octets.Goals as goal

pub returns : goal.returns
returns c = base32hex_same
