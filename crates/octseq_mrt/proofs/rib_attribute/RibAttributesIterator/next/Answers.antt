use Rattle.std.proofs.Common.{refl, arith}
use Rattle.octseq.specs.Parser.{window}
use Rattle.octseq_format.proofs.RowSteps.{fewer}
use Rattle.octseq_mrt.specs.Listed.{attributes_listed}
use Rattle.octseq_mrt.specs.Parsed.{attribute_of}
use Rattle.octseq_mrt.proofs.Filled.{ahead_none, ahead_not, ahead_more, ahead_then}
use Rattle.octseq_mrt.proofs.rib_attribute.RibAttributesIterator.next.Goals as goal

pub returns-then-remaining-eq0-clause-steps : goal.returns-then-remaining-eq0-clause-steps
returns-then-remaining-eq0-clause-steps g c =
    let self = c.args.self.now in
    let none = ahead_none attributes_listed (window self.parser) self.ahead
    (omega (arith, c.remaining.ensures.left, c.if-remaining-eq0.true)) in
    (none, none)

pub unreachable-requires : goal.unreachable-requires
unreachable-requires g c =
    let self = c.args.self.now in
    ahead_not attributes_listed (window self.parser) self.ahead
    (omega (arith, c.remaining.ensures.left, c.if-remaining-eq0.false)) (c.in-Err.ensures.malformed refl)

pub invariant_of-self : goal.invariant_of-self
invariant_of-self g c =
    let self = c.args.self.now in
    let more = ahead_more attributes_listed (window self.parser) (window c.parse.new.parser)
    (attribute_of c.in-Ok.attribute) self.ahead c.in-Ok.ensures.attribute in
    record { ahead = more }

pub returns-clause-steps : goal.returns-clause-steps
returns-clause-steps g c =
    let self = c.args.self.now in
    ahead_then attributes_listed (window self.parser) (window c.parse.new.parser) (attribute_of c.in-Ok.attribute)
    self.ahead c.self-1.given.0 c.in-Ok.ensures.attribute

pub returns-clause-goes : goal.returns-clause-goes
returns-clause-goes g c =
    let less = fewer _ c.args.self.now.ahead.0 c.self-1.given.0.0 (returns-clause-steps g c) in
    record { on = λ finite. (tt, finite, less); keeps = tt; rests = λ _. tt }
