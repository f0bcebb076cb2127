use Rattle.std.proofs.Common.{refl}
use Rattle.octseq_bgp.proofs.message.Message.parse_counted.Goals as goal

pub returns-in_err-header-clause-malformed : goal.returns-in_err-header-clause-malformed
returns-in_err-header-clause-malformed g c = λ _ m is. c.in_err-header.ensures.malformed refl is.kind is.body
    is.header is.short
