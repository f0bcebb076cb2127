use Rattle.octseq_dns_scan.proofs.Base64Texts.{base64_same}
use Rattle.octseq_dns_scan.proofs.base64.base64_determines_octets.Goals as goal

pub returns : goal.returns
returns c = base64_same
