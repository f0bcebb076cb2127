use Rattle.std.proofs.Common.{ap}
use Rattle.octseq.specs.Parser.{window}
use Rattle.octseq_format.specs.Row.{held_to_once}
use Rattle.octseq_format.proofs.walk.WalkClone.clone.Goals as goal

pub returns : goal.returns
returns g c =
    let self = c.args.self.now in
    let f = g.F.Format in
    record {
      cases = ap (λ ahead.
          record {
            parser = self.parser;
            left = self.left;
            end = self.end;
            item = self.item;
            answers = self.answers;
            ahead = ahead;
          })
          (held_to_once f.found_code f.is_at f.one (window self.parser) self.left self.end _ self.ahead);
    }
