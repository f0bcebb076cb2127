use Rattle.octseq_dns_scan.proofs.Base64Reading.{no_char}
use Rattle.octseq_dns_scan.proofs.base64.Base64ReaderDigitReader.take.Goals as goal

pub returns-in_err-value : goal.returns-in_err-value
returns-in_err-value c =
    rw c.from_residual.ensures
    (λ text octets read. no_char text c.args.octet c.if-octet-eq61.false c.in_err-value.ensures)
