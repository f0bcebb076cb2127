use Rattle.std.proofs.Common.{◌≡◌, ◌-◌, true, false, refl, arith, rules}
use Rattle.octseq.specs.Parser.{window}
use Rattle.octseq_format.specs.Fixed.{IsFixed, one_fixed}
use Rattle.octseq_format.proofs.RowSteps.{held_none, held_not, held_more, held_then, fewer}
use Rattle.octseq_bgp.proofs.item.ItemsIterator.next.Goals as goal

pub returns-then-self-eq0-clause-steps : goal.returns-then-self-eq0-clause-steps
returns-then-self-eq0-clause-steps g c =
    let self = c.args.self.now in
    let t = g.T.Item in
    let none = held_none t.found_code (IsFixed t.width t.reads) (window self.parser) self.left self.ahead
    (search rules) in
    (none, none)

pub unreachable-requires : goal.unreachable-requires
unreachable-requires g c =
    let self = c.args.self.now in
    let t = g.T.Item in
    held_not (IsFixed t.width t.reads) (window self.parser) self.left self.ahead (omega arith)
    (λ item v is. let short : false ≡ true = c.in-Err.ensures.taken.variant.1 is.0 in absurd (cc))

pub invariant_of-self : goal.invariant_of-self
invariant_of-self g c =
    let self = c.args.self.now in
    let t = g.T.Item in
    let taken = c.in-Ok.ensures.taken in
    record {
      ahead = held_more t.found_code (IsFixed t.width t.reads) (one_fixed t.width t.reads) (window self.parser)
          (window c.take.new.parser) (t.found c.in-Ok.item) self.left (self.left - 1) self.ahead
          (taken.variant.0 refl, c.in-Ok.ensures.value, taken.ok) (omega arith);
    }

pub returns-clause-steps : goal.returns-clause-steps
returns-clause-steps g c =
    let self = c.args.self.now in
    let t = g.T.Item in
    let taken = c.in-Ok.ensures.taken in
    held_then t.found_code (IsFixed t.width t.reads) (one_fixed t.width t.reads) (window self.parser)
    (window c.take.new.parser) (t.found c.in-Ok.item) self.left (self.left - 1) self.ahead c.self-1.given.0
    (taken.variant.0 refl, c.in-Ok.ensures.value, taken.ok) (omega arith)

pub returns-clause-goes : goal.returns-clause-goes
returns-clause-goes g c =
    let less = fewer (g.T.Item.found c.in-Ok.item) c.args.self.now.ahead.0 c.self-1.given.0.0
    (returns-clause-steps g c) in
    record { on = λ finite. (tt, finite, less); keeps = tt; rests = λ _. tt }
