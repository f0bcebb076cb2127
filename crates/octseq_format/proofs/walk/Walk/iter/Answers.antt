use Rattle.std.proofs.Common.{ap}
use Rattle.octseq.specs.Parser.{window}
use Rattle.octseq_format.specs.Row.{held_to_once}
use Rattle.octseq_format.proofs.walk.Walk.iter.Goals as goal

pub returns : goal.returns
returns g c =
    let self = c.args.self.now in
    let f = g.F.Format in
    ap (λ held. held.0)
    (held_to_once f.found_code f.is_at f.one (window self.parser) self.left self.end c.result-2-1.given.0 self.ahead)
