use Rattle.octseq_dns_scan.proofs.TextReaders.{refused_in, passed_same}
use Rattle.octseq_dns_scan.proofs.digits.feed.Goals as goal

pub returns-in_err-reader : goal.returns-in_err-reader
returns-in_err-reader g c =
    let so_far = c.loop-octet.invariant in
    rw (passed_same c.from_residual.result c.in_err-reader.field-0.0 c.from_residual.ensures)
    (refused_in g.R.DigitReader.is_text g.R.DigitReader.has_read g.B.AsOctets.limit g.B.AsOctets.asks
    c.in_err-reader.field-0.0 c.args.reader c.loop-octet.reader c.args.run.now c.loop-octet.octet-index so_far.0
    (g.B.AsOctets.content c.args.target.now) (g.B.AsOctets.content c.loop-octet.target) _ c.loop-octet-test.true
    so_far.1 so_far.2 c.in_err-reader.ensures)
