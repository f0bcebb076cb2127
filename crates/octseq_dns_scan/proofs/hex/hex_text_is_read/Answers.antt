use Rattle.octseq_dns_scan.proofs.HexTexts.{hex_written}
use Rattle.octseq_dns_scan.proofs.hex.hex_text_is_read.Goals as goal

pub returns : goal.returns
returns c = hex_written
