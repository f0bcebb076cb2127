use Rattle.octseq_dns_scan.proofs.Base64Reading.{whole_text, open_text}
use Rattle.octseq_dns_scan.proofs.base64.Base64Reader.finish.Goals as goal

pub returns-in-Whole : goal.returns-in-Whole
returns-in-Whole c = record {
  ok = λ text octets read. whole_text c.args.self.place c.args.self.bits text octets c.in-Whole.is read;
  malformed = tt;
}

pub returns-in-One : goal.returns-in-One
returns-in-One c = record {
  ok = tt;
  malformed = λ text octets other read is.
      open_text c.args.self.place c.args.self.bits text octets other c.in-One.is read is;
}
