use Rattle.octseq_dns_scan.proofs.HexTexts.{hex_goes_on}
use Rattle.octseq_dns_scan.proofs.hex.HexReader.has_text.Goals as goal

pub returns : goal.returns
returns c = λ text octets read. hex_goes_on c.args.self.high text octets c.args.self.small read.each read.same
