use Rattle.std.proofs.Common.{refl}
use Rattle.octseq_bgp.proofs.message.parameter.Parameters.parse_counted.Goals as goal

pub returns-in_err-left-clause-malformed : goal.returns-in_err-left-clause-malformed
returns-in_err-left-clause-malformed g c = λ _. c.in_err-left.ensures.counts.malformed refl

pub returns-clause-parameters : goal.returns-clause-parameters
returns-clause-parameters g c = c.in_ok-left.ensures.counts.filled c.result-1.given.0
