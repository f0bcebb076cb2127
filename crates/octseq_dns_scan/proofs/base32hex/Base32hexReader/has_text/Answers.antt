use Rattle.std.proofs.Common.{map, ◌∙◌}
use Rattle.std.proofs.lemmas.List.{map-append}
use Rattle.std.specs.Char.{to_ascii_lowercase}
use Rattle.octseq_dns_scan.proofs.Base32hexReading.{base32hex_goes_on}
use Rattle.octseq_dns_scan.proofs.base32hex.Base32hexReader.has_text.Goals as goal

pub returns : goal.returns
returns c = λ text octets read.
    let on = base32hex_goes_on c.args.self.place c.args.self.bits (map to_ascii_lowercase text) octets c.args.self.few
    read in
    (on.0, on.1, on.2, map-append to_ascii_lowercase text on.0 ∙ on.3)
