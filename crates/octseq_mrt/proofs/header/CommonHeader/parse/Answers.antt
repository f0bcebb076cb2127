use Rattle.std.proofs.Common.{refl}
use Rattle.octseq_mrt.proofs.header.CommonHeader.parse.Goals as goal

pub returns-in_err-timestamp-clause-malformed : goal.returns-in_err-timestamp-clause-malformed
returns-in_err-timestamp-clause-malformed g c = λ _ h v is.
    c.in_err-timestamp.ensures.malformed refl (h.timestamp, (h.type_code, (h.subtype, h.length))) v is
