use Rattle.std.proofs.Common.{refl}
use Rattle.octseq_bgp.proofs.attribute.value.parse_origin.Goals as goal

pub returns-in_err-origin-clause-malformed : goal.returns-in_err-origin-clause-malformed
returns-in_err-origin-clause-malformed g c = λ _ n is.
    c.in_err-origin.ensures.malformed refl n (is.0, is.1.0, is.2)
