use Rattle.std.proofs.Common.{◌+◌, ◌*◌, ◌%◌, map, refl, sym}
use Rattle.std.specs.Char.{to_ascii_lowercase}
use Rattle.octseq_dns_scan.specs.declared.base32hex.Place.TheVariants.{Whole, One, Two, Three, Four, Five, Six, Seven}
use Rattle.octseq_dns_scan.proofs.Base32hexReading.{read_whole, read_one, read_two, read_three, read_four, read_five}
use Rattle.octseq_dns_scan.proofs.Base32hexReading.{read_six, read_seven, no_digit, moved, few_at, lowered}
use Rattle.octseq_dns_scan.proofs.base32hex.Base32hexReaderDigitReader.take.Goals as goal

pub returns-in_err-digit : goal.returns-in_err-digit
returns-in_err-digit c =
    rw c.from_residual.ensures (λ text octets read. no_digit text c.args.octet c.in_err-digit.ensures)

pub returns-in-Whole : goal.returns-in-Whole
returns-in-Whole c = λ text octets read.
    lowered c.at.result.place One c.at.result.bits c.in_ok-digit.digit c.args.octet
    c.in_ok-digit.digit text _ c.at.ensures.place c.at.ensures.bits c.in_ok-digit.ensures.1
    (read_whole c.args.self.bits c.in_ok-digit.digit (map to_ascii_lowercase text) octets c.in_ok-digit.ensures.0
    (moved Whole c.args.self.place c.args.self.bits c.args.self.bits (map to_ascii_lowercase text) octets
    (sym c.in-Whole.is) refl read))

pub returns-in-One : goal.returns-in-One
returns-in-One c = λ text octets read.
    lowered c.at-in-One.result.place Two c.at-in-One.result.bits (c.in_ok-digit.digit % 4) c.args.octet
    c.in_ok-digit.digit text _ c.at-in-One.ensures.place c.at-in-One.ensures.bits c.in_ok-digit.ensures.1
    (read_one c.args.self.bits c.in_ok-digit.digit (map to_ascii_lowercase text) octets
    (few_at c.args.self.place One c.args.self.bits c.in-One.is c.args.self.few) c.in_ok-digit.ensures.0
    (moved One c.args.self.place c.args.self.bits c.args.self.bits (map to_ascii_lowercase text) octets
    (sym c.in-One.is) refl read))

pub returns-in-Two : goal.returns-in-Two
returns-in-Two c = λ text octets read.
    lowered c.at-in-Two.result.place Three c.at-in-Two.result.bits (c.args.self.bits * 32 + c.in_ok-digit.digit)
    c.args.octet c.in_ok-digit.digit text _ c.at-in-Two.ensures.place c.at-in-Two.ensures.bits c.in_ok-digit.ensures.1
    (read_two c.args.self.bits c.in_ok-digit.digit (map to_ascii_lowercase text) octets
    (few_at c.args.self.place Two c.args.self.bits c.in-Two.is c.args.self.few) c.in_ok-digit.ensures.0
    (moved Two c.args.self.place c.args.self.bits c.args.self.bits (map to_ascii_lowercase text) octets
    (sym c.in-Two.is) refl read))

pub returns-in-Three : goal.returns-in-Three
returns-in-Three c = λ text octets read.
    lowered c.at-in-Three.result.place Four c.at-in-Three.result.bits (c.in_ok-digit.digit % 16) c.args.octet
    c.in_ok-digit.digit text _ c.at-in-Three.ensures.place c.at-in-Three.ensures.bits c.in_ok-digit.ensures.1
    (read_three c.args.self.bits c.in_ok-digit.digit (map to_ascii_lowercase text) octets
    (few_at c.args.self.place Three c.args.self.bits c.in-Three.is c.args.self.few) c.in_ok-digit.ensures.0
    (moved Three c.args.self.place c.args.self.bits c.args.self.bits (map to_ascii_lowercase text) octets
    (sym c.in-Three.is) refl read))

pub returns-in-Four : goal.returns-in-Four
returns-in-Four c = λ text octets read.
    lowered c.at-in-Four.result.place Five c.at-in-Four.result.bits (c.in_ok-digit.digit % 2) c.args.octet
    c.in_ok-digit.digit text _ c.at-in-Four.ensures.place c.at-in-Four.ensures.bits c.in_ok-digit.ensures.1
    (read_four c.args.self.bits c.in_ok-digit.digit (map to_ascii_lowercase text) octets
    (few_at c.args.self.place Four c.args.self.bits c.in-Four.is c.args.self.few) c.in_ok-digit.ensures.0
    (moved Four c.args.self.place c.args.self.bits c.args.self.bits (map to_ascii_lowercase text) octets
    (sym c.in-Four.is) refl read))

pub returns-in-Five : goal.returns-in-Five
returns-in-Five c = λ text octets read.
    lowered c.at-in-Five.result.place Six c.at-in-Five.result.bits (c.args.self.bits * 32 + c.in_ok-digit.digit)
    c.args.octet c.in_ok-digit.digit text _ c.at-in-Five.ensures.place c.at-in-Five.ensures.bits c.in_ok-digit.ensures.1
    (read_five c.args.self.bits c.in_ok-digit.digit (map to_ascii_lowercase text) octets
    (few_at c.args.self.place Five c.args.self.bits c.in-Five.is c.args.self.few) c.in_ok-digit.ensures.0
    (moved Five c.args.self.place c.args.self.bits c.args.self.bits (map to_ascii_lowercase text) octets
    (sym c.in-Five.is) refl read))

pub returns-in-Six : goal.returns-in-Six
returns-in-Six c = λ text octets read.
    lowered c.at-in-Six.result.place Seven c.at-in-Six.result.bits (c.in_ok-digit.digit % 8) c.args.octet
    c.in_ok-digit.digit text _ c.at-in-Six.ensures.place c.at-in-Six.ensures.bits c.in_ok-digit.ensures.1
    (read_six c.args.self.bits c.in_ok-digit.digit (map to_ascii_lowercase text) octets
    (few_at c.args.self.place Six c.args.self.bits c.in-Six.is c.args.self.few) c.in_ok-digit.ensures.0
    (moved Six c.args.self.place c.args.self.bits c.args.self.bits (map to_ascii_lowercase text) octets
    (sym c.in-Six.is) refl read))

pub returns-in-Seven : goal.returns-in-Seven
returns-in-Seven c = λ text octets read.
    lowered c.at-in-Seven.result.place Whole c.at-in-Seven.result.bits 0 c.args.octet
    c.in_ok-digit.digit text _ c.at-in-Seven.ensures.place c.at-in-Seven.ensures.bits c.in_ok-digit.ensures.1
    (read_seven c.args.self.bits c.in_ok-digit.digit (map to_ascii_lowercase text) octets
    (few_at c.args.self.place Seven c.args.self.bits c.in-Seven.is c.args.self.few) c.in_ok-digit.ensures.0
    (moved Seven c.args.self.place c.args.self.bits c.args.self.bits (map to_ascii_lowercase text) octets
    (sym c.in-Seven.is) refl read))
