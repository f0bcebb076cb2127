use Rattle.std.proofs.Common.{◌-◌, refl, arith, rules}
use Rattle.std.specs.Coded.{coded_ℕ}
use Rattle.octseq.specs.Parser.{window}
use Rattle.octseq_format.proofs.RowSteps.{held_none, held_not, held_more, held_then, fewer}
use Rattle.octseq_bgp.specs.Parts.{IsNumber}
use Rattle.octseq_bgp.specs.OneParts.{one_number}
use Rattle.octseq_bgp.specs.Path.{asn_size}
use Rattle.octseq_bgp.proofs.attribute.path.AsnsIterator.next.Goals as goal

pub returns-then-self-eq0-clause-steps : goal.returns-then-self-eq0-clause-steps
returns-then-self-eq0-clause-steps g c =
    let self = c.args.self.now in
    let none = held_none coded_ℕ (IsNumber (asn_size self.wide)) (window self.parser) self.left self.ahead
    (search rules) in
    (none, none)

pub unreachable-requires : goal.unreachable-requires
unreachable-requires g c =
    let self = c.args.self.now in
    held_not (IsNumber (asn_size self.wide)) (window self.parser) self.left self.ahead (omega arith)
    (c.in-Err.ensures.malformed refl)

pub invariant_of-self : goal.invariant_of-self
invariant_of-self g c =
    let self = c.args.self.now in
    let k = asn_size self.wide in
    record {
      ahead = held_more coded_ℕ (IsNumber k) (one_number k) (window self.parser) (window c.parse_asn.new.parser)
          c.in-Ok.asn.0 self.left (self.left - 1) self.ahead c.in-Ok.ensures.number (omega arith);
    }

pub returns-clause-steps : goal.returns-clause-steps
returns-clause-steps g c =
    let self = c.args.self.now in
    let k = asn_size self.wide in
    held_then coded_ℕ (IsNumber k) (one_number k) (window self.parser) (window c.parse_asn.new.parser) c.in-Ok.asn.0
    self.left (self.left - 1) self.ahead c.self-1.given.0 c.in-Ok.ensures.number (omega arith)

pub returns-clause-goes : goal.returns-clause-goes
returns-clause-goes g c =
    let less = fewer c.in-Ok.asn.0 c.args.self.now.ahead.0 c.self-1.given.0.0 (returns-clause-steps g c) in
    record { on = λ finite. (tt, finite, less); keeps = tt; rests = λ _. tt }
