use Rattle.std.proofs.Common.{refl}
use Rattle.octseq_bgp.proofs.attribute.path.AsPath.parse_counted.Goals as goal

pub returns-in_err-left-clause-malformed : goal.returns-in_err-left-clause-malformed
returns-in_err-left-clause-malformed g c = λ _ path is. c.in_err-left.ensures.counts.malformed refl path.1 is.1

pub returns-clause-path : goal.returns-clause-path
returns-clause-path g c = (refl, c.in_ok-left.ensures.counts.filled c.result-1.given.0)
