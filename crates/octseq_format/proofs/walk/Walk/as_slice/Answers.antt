use Rattle.std.proofs.Common.{rules, ap, take, ◌∙◌}
use Rattle.octseq.specs.Parser.{window}
use Rattle.octseq_format.specs.Canonical.{IsSoundWindow}
use Rattle.octseq_format.proofs.Copies.{held_written}
use Rattle.octseq_format.proofs.walk.Walk.as_slice.Goals as goal

pub returns : goal.returns
returns g c = λ canonical.
    let self = c.args.self.now in
    let w = window self.parser in
    let sound : IsSoundWindow w =
    record { each = search rules; ordered = search rules; within = search rules } in
    let n = c.octets_len.result in
    let said = held_written g.met.F.Format.onward canonical w self.left self.end n self.ahead sound
    c.octets_len.ensures.end in
    (said.0, ap (take n) c.peek_all.ensures.content ∙ said.1)
