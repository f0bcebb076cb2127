use Rattle.std.proofs.Common.{ap}
use Rattle.octseq.specs.Parser.{window}
use Rattle.octseq_format.specs.Row.{held_to_once}
use Rattle.octseq_format.proofs.walk.Walk.at.Goals as goal

pub invariant_of-result : goal.invariant_of-result
invariant_of-result g c = record { ahead = c.requires }

pub returns : goal.returns
returns g c = λ held.
    let f = g.F.Format in
    ap (λ held. held.0)
    (held_to_once f.found_code f.is_at f.one (window c.args.parser) c.args.left c.args.end c.result-1.given.0 held)
