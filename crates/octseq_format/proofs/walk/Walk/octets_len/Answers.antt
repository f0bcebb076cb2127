use Rattle.std.proofs.Common.{arith}
use Rattle.octseq.specs.Parser.{window}
use Rattle.octseq_format.proofs.Copies.{held_offset}
use Rattle.octseq_format.proofs.walk.Walk.octets_len.Goals as goal

pub overflow_sub-result : goal.overflow_sub-result
overflow_sub-result g c =
    let self = c.args.self.now in
    let f = g.F.Format in
    let is = c.pos.ensures.position in
    let ordered = c.pos.ensures.ordered in
    let offset = held_offset f.is_at g.met.F.Format.onward (window self.parser) self.left self.end self.ahead
    (omega (arith, is, ordered)) in
    omega (arith, is, offset.0)

pub returns-clause-end : goal.returns-clause-end
returns-clause-end g c =
    let is = c.pos.ensures.position in
    let few = overflow_sub-result g c in
    omega (arith, is, few)

pub returns-clause-within : goal.returns-clause-within
returns-clause-within g c =
    let self = c.args.self.now in
    let f = g.F.Format in
    let is = c.pos.ensures.position in
    let ordered = c.pos.ensures.ordered in
    let offset = held_offset f.is_at g.met.F.Format.onward (window self.parser) self.left self.end self.ahead
    (omega (arith, is, ordered)) in
    omega (arith, is, offset.1)
