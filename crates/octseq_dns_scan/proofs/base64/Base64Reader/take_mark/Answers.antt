use Rattle.std.proofs.Common.{sym}
use Rattle.octseq_dns_scan.specs.declared.base64.Place.TheVariants.{Two, Mark, End}
use Rattle.octseq_dns_scan.proofs.Base64Reading.{read_mark, mark_read, mark_refused, some_bits, moved}
use Rattle.octseq_dns_scan.proofs.base64.Base64Reader.take_mark.Goals as goal

pub returns-then-self-ne0 : goal.returns-then-self-ne0
returns-then-self-ne0 c = λ text octets read.
    some_bits c.args.self.place c.args.self.bits text octets c.if-self-ne0.true c.args.self.few read

pub returns-in-Two : goal.returns-in-Two
returns-in-Two c = λ text octets read.
    moved c.at.result.place Mark c.at.result.bits 0 _ _ c.at.ensures.place c.at.ensures.bits (read_mark text octets
    (moved Two c.args.self.place 0 c.args.self.bits text octets (sym c.in-Two.is) (sym c.if-self-ne0.false) read))

pub returns-in-Three : goal.returns-in-Three
returns-in-Three c = λ text octets read.
    moved c.at-in-Three.result.place End c.at-in-Three.result.bits 0 _ _ c.at-in-Three.ensures.place
    c.at-in-Three.ensures.bits
    (mark_read c.args.self.place c.args.self.bits text octets c.in-Three.is c.if-self-ne0.false read)

pub returns-in-Whole : goal.returns-in-Whole
returns-in-Whole c = λ text octets read.
    mark_refused c.args.self.place c.args.self.bits text octets c.in-Whole.is read
