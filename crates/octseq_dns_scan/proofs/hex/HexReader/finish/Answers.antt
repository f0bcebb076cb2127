use Rattle.std.proofs.Common.{◌++◌, ap, ◌∙◌}
use Rattle.std.specs.List.{flat_map}
use Rattle.octseq.specs.OctetsText.{hex_text}
use Rattle.octseq_dns_scan.specs.HexRead.{open_digit}
use Rattle.octseq_dns_scan.proofs.HexTexts.{not_whole}
use Rattle.octseq_dns_scan.proofs.hex.HexReader.finish.Goals as goal

pub returns-in-Some-clause-malformed : goal.returns-in-Some-clause-malformed
returns-in-Some-clause-malformed c = λ text octets other read are is.
    not_whole text octets other _ (read.same ∙ ap (λ high. flat_map hex_text octets ++ open_digit high) c.in-Some.is) is
