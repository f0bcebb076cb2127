use Rattle.octseq_dns_scan.proofs.Base64Reading.{base64_goes_on}
use Rattle.octseq_dns_scan.proofs.base64.Base64Reader.has_text.Goals as goal

pub returns : goal.returns
returns c = λ text octets read.
    base64_goes_on c.args.self.place c.args.self.bits text octets c.args.self.few read
