use Rattle.std.proofs.Common.{sym, ◌∙◌}
use Rattle.octseq_dns_scan.proofs.HexTexts.{hex_same}
use Rattle.octseq_dns_scan.proofs.hex.hex_determines_octets.Goals as goal

pub returns : goal.returns
returns c = λ octets other text are also is equals. hex_same octets other are also (sym is ∙ equals)
