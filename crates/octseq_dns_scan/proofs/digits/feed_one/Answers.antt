use Rattle.std.proofs.Common.{[], sym, ◌∙◌}
use Rattle.std.proofs.lemmas.List.{append-nil}
use Rattle.octseq_dns_scan.proofs.TextReaders.{one_past, spared, passed_on}
use Rattle.octseq_dns_scan.proofs.digits.feed_one.Goals as goal

pub returns-in_err-append_slice : goal.returns-in_err-append_slice
returns-in_err-append_slice g c =
    let error = c.in_err-append_slice.field-0.0 in
    let left = spared g.B.AsOctets.limit g.B.AsOctets.asks error _ _ _ c.in_err-append_slice.ensures.appended in
    rw (passed_on c.from_residual.result error c.from_residual.ensures) (record {
      ok = tt;
      malformed = λ is. absurd (left.formed is);
      short = λ is. one_past g.R.DigitReader.has_read g.B.AsOctets.limit c.args.reader _ c.args.octet _ _ _
          c.in-Some-made.is c.in-Some.ensures (left.short is);
      memory = left.memory;
      kept = ([], left.kept ∙ sym (append-nil _));
    })
