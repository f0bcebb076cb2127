use Rattle.std.proofs.Common.{refl}
use Rattle.octseq_dns_message.proofs.header.Header.parse.Goals as goal

pub returns-in_err-numbers-clause-malformed : goal.returns-in_err-numbers-clause-malformed
returns-in_err-numbers-clause-malformed g c = λ _. c.in_err-numbers.ensures.malformed refl
