use Rattle.std.proofs.Common.{ap}
use Rattle.octseq.specs.Parser.{window}
use Rattle.octseq_dns_message.specs.OneEntry.{questions_once}
use Rattle.octseq_dns_message.proofs.message.walk.Questions.at.Goals as goal

pub invariant_of-result : goal.invariant_of-result
invariant_of-result g c = record { ahead = c.requires }

pub returns : goal.returns
returns g c = λ held. ap (λ held. held.0) (questions_once (window c.args.parser) c.args.left c.result-1.given.0 held)
