use Rattle.octseq_dns_scan.proofs.HexTexts.{no_digit}
use Rattle.octseq_dns_scan.proofs.hex.HexReaderDigitReader.take.Goals as goal

pub returns-in_err-digit : goal.returns-in_err-digit
returns-in_err-digit c =
    rw c.from_residual.ensures (λ text octets read. no_digit text c.args.octet c.in_err-digit.ensures)
