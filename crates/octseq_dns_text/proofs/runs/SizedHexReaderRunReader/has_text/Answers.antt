use Rattle.octseq_dns_text.proofs.SizedHexLaws.{sized_goes_on}
use Rattle.octseq_dns_text.proofs.runs.SizedHexReaderRunReader.has_text.Goals as goal

pub returns : goal.returns
returns c = λ start text octets read.
    let reader = c.args.self.reader in
    sized_goes_on reader.high c.args.self.digits read.half text octets reader.small read.read.each read.read.same
    start.digits read.left read.even
