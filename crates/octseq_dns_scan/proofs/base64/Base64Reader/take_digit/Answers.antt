use Rattle.std.proofs.Common.{◌%◌, refl, sym}
use Rattle.octseq_dns_scan.specs.declared.base64.Place.TheVariants.{Whole, One, Two, Three}
use Rattle.octseq_dns_scan.proofs.Base64Reading.{read_one, read_two, read_three, read_four, digit_refused, moved}
use Rattle.octseq_dns_scan.proofs.Base64Reading.{few_at}
use Rattle.octseq_dns_scan.proofs.base64.Base64Reader.take_digit.Goals as goal

pub returns-in-Whole : goal.returns-in-Whole
returns-in-Whole c = λ text octets read.
    moved c.at.result.place One c.at.result.bits c.args.value _ _ c.at.ensures.place c.at.ensures.bits
    (read_one c.args.self.bits c.args.value text octets
    (moved Whole c.args.self.place c.args.self.bits c.args.self.bits text octets (sym c.in-Whole.is) refl read))

pub returns-in-One : goal.returns-in-One
returns-in-One c = λ text octets read.
    moved c.at-in-One.result.place Two c.at-in-One.result.bits (c.args.value % 16) _ _ c.at-in-One.ensures.place
    c.at-in-One.ensures.bits (read_two c.args.self.bits c.args.value text octets
    (few_at c.args.self.place One c.args.self.bits c.in-One.is c.args.self.few) c.requires
    (moved One c.args.self.place c.args.self.bits c.args.self.bits text octets (sym c.in-One.is) refl read))

pub returns-in-Two : goal.returns-in-Two
returns-in-Two c = λ text octets read.
    moved c.at-in-Two.result.place Three c.at-in-Two.result.bits (c.args.value % 4) _ _ c.at-in-Two.ensures.place
    c.at-in-Two.ensures.bits (read_three c.args.self.bits c.args.value text octets
    (few_at c.args.self.place Two c.args.self.bits c.in-Two.is c.args.self.few) c.requires
    (moved Two c.args.self.place c.args.self.bits c.args.self.bits text octets (sym c.in-Two.is) refl read))

pub returns-in-Three : goal.returns-in-Three
returns-in-Three c = λ text octets read.
    moved c.at-in-Three.result.place Whole c.at-in-Three.result.bits 0 _ _ c.at-in-Three.ensures.place
    c.at-in-Three.ensures.bits (read_four c.args.self.bits c.args.value text octets
    (few_at c.args.self.place Three c.args.self.bits c.in-Three.is c.args.self.few) c.requires
    (moved Three c.args.self.place c.args.self.bits c.args.self.bits text octets (sym c.in-Three.is) refl read))

pub returns-in-Mark : goal.returns-in-Mark
returns-in-Mark c = λ text octets read.
    digit_refused c.args.self.place c.args.self.bits c.args.value text octets c.in-Mark.is c.requires read
