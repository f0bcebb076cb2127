use Rattle.std.proofs.Common.{sym, refl}
use Rattle.octseq_dns_scan.proofs.Base32hexReading.{moved, left_over, open_place, whole_place}
use Rattle.octseq_dns_scan.proofs.base32hex.Base32hexReader.finish.Goals as goal

pub returns-then-self-ne0 : goal.returns-then-self-ne0
returns-then-self-ne0 c = record {
  ok = tt;
  malformed = λ text octets other read is.
      left_over c.args.self.place c.args.self.bits _ octets other c.if-self-ne0.true c.args.self.few read is;
}

pub returns-in-Whole : goal.returns-in-Whole
returns-in-Whole c = record {
  ok = λ text octets read. whole_place c.args.self.place _ octets c.in-Whole.is
      (moved c.args.self.place c.args.self.place 0 c.args.self.bits _ octets refl (sym c.if-self-ne0.false) read);
  malformed = tt;
}

pub returns-in-One : goal.returns-in-One
returns-in-One c = record {
  ok = tt;
  malformed = λ text octets other read is.
      open_place c.args.self.place c.args.self.bits _ octets other c.in-One.is read is;
}
