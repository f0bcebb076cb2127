use Rattle.std.proofs.Common.{refl, arith}
use Rattle.octseq.specs.Parser.{window}
use Rattle.octseq.specs.Window.{rest}
use Rattle.octseq_dns_data.specs.Strings.{HasString}
use Rattle.octseq_dns_data.specs.OneRow.{string_code, string_item}
use Rattle.octseq_dns_data.proofs.Rows.{reached_none, reached_not, reached_more, reached_then}
use Rattle.octseq_format.proofs.RowSteps.{fewer}
use Rattle.octseq_dns_data.proofs.data.txt.StringsIterator.next.Goals as goal

pub returns-then-pos-self-clause-steps : goal.returns-then-pos-self-clause-steps
returns-then-pos-self-clause-steps g c =
    let self = c.args.self.now in
    let is = c.pos.ensures.position in
    let none = reached_none string_code HasString string_item (window self.parser) self.end self.ahead
    (omega (arith, is)) in
    ((none, none), tt)

pub unreachable-requires : goal.unreachable-requires
unreachable-requires g c =
    let self = c.args.self.now in
    let is = c.pos.ensures.position in
    reached_not HasString (window self.parser) self.end self.ahead (λ same. omega (arith, is, same))
    (c.in-Err.ensures.malformed refl)

pub invariant_of-self : goal.invariant_of-self
invariant_of-self g c =
    let self = c.args.self.now in
    let is = c.pos.ensures.position in
    record {
      ahead = reached_more string_code HasString string_item (window self.parser)
          (window c.take_string.new.parser) self.end (rest (window c.in-Ok.parser)) self.ahead
          (λ same. omega (arith, is, same)) c.in-Ok.ensures.string;
    }

pub returns-clause-steps : goal.returns-clause-steps
returns-clause-steps g c =
    let self = c.args.self.now in
    let is = c.pos.ensures.position in (
      reached_then string_code HasString string_item (window self.parser)
          (window c.take_string.new.parser) self.end self.end (rest (window c.in-Ok.parser)) self.ahead c.self-1.given.0
          refl (λ same. omega (arith, is, same)) c.in-Ok.ensures.string,
      (c.in-Ok.ensures.place, c.in-Ok.ensures.string.2),
    )

pub returns-clause-goes : goal.returns-clause-goes
returns-clause-goes g c =
    let less = fewer (rest (window c.in-Ok.parser)) c.args.self.now.ahead.0 c.self-1.given.0.0
    (returns-clause-steps g c).0 in
    record { on = λ finite. (tt, finite, less); keeps = tt; rests = λ _. tt }
