use Rattle.std.proofs.Common.{◌-◌, refl, arith, rules}
use Rattle.octseq.specs.Parser.{window}
use Rattle.octseq_format.proofs.RowSteps.{holds_of, held_none, held_not, held_to_more, held_then, fewer}
use Rattle.octseq_format.proofs.walk.WalkIterator.next.Goals as goal

pub returns-then-self-eq0-clause-steps : goal.returns-then-self-eq0-clause-steps
returns-then-self-eq0-clause-steps g c =
    let self = c.args.self.now in
    let f = g.F.Format in
    let none = held_none f.found_code f.is_at (window self.parser) self.left
    (holds_of f.is_at (window self.parser) self.left self.end self.ahead) (search rules) in
    (none, none)

pub unreachable-requires : goal.unreachable-requires
unreachable-requires g c =
    let self = c.args.self.now in
    let f = g.F.Format in
    held_not f.is_at (window self.parser) self.left
    (holds_of f.is_at (window self.parser) self.left self.end self.ahead) (omega arith)
    (c.in-Err.ensures.malformed refl)

pub invariant_of-self : goal.invariant_of-self
invariant_of-self g c =
    let self = c.args.self.now in
    let f = g.F.Format in
    record {
      ahead = held_to_more f.found_code f.is_at f.one (window self.parser) (window c.parse.new.parser)
          (f.found c.in-Ok.item) self.left (self.left - 1) self.end self.ahead c.in-Ok.ensures.value (omega arith);
    }

pub returns-clause-steps : goal.returns-clause-steps
returns-clause-steps g c =
    let self = c.args.self.now in
    let f = g.F.Format in
    let w = window self.parser in
    let u = window c.parse.new.parser in
    let less = self.left - 1 in
    held_then f.found_code f.is_at f.one w u (f.found c.in-Ok.item) self.left less
    (holds_of f.is_at w self.left self.end self.ahead) (holds_of f.is_at u less self.end c.self-1.given.0)
    c.in-Ok.ensures.value (omega arith)

pub returns-clause-goes : goal.returns-clause-goes
returns-clause-goes g c =
    let less = fewer (g.F.Format.found c.in-Ok.item) c.args.self.now.ahead.0 c.self-1.given.0.0
    (returns-clause-steps g c) in
    record { on = λ finite. (tt, finite, less); keeps = tt; rests = λ _. tt }
