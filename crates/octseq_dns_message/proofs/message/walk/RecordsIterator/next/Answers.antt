use Rattle.std.proofs.Common.{◌-◌, arith, rules}
use Rattle.octseq.specs.Parser.{window}
use Rattle.octseq_dns_message.specs.Entry.{IsRecord}
use Rattle.octseq_dns_message.specs.OneEntry.{one_record, record_code}
use Rattle.octseq_dns_message.specs.Said.{record_of}
use Rattle.octseq_dns_message.proofs.Known.{known_first, known_more, known_then}
use Rattle.octseq_format.proofs.RowSteps.{held_none, fewer}
use Rattle.octseq_dns_message.proofs.message.walk.RecordsIterator.next.Goals as goal

pub returns-then-self-eq0-clause-steps : goal.returns-then-self-eq0-clause-steps
returns-then-self-eq0-clause-steps g c =
    let self = c.args.self.now in
    let none = held_none record_code IsRecord (window self.parser) self.left self.ahead (search rules) in
    (none, none)

pub parse_known-entry-requires : goal.parse_known-entry-requires
parse_known-entry-requires g c =
    let self = c.args.self.now in
    let some = c.if-self-eq0.false in
    known_first IsRecord (window self.parser) self.left self.ahead (omega (arith, some))

pub invariant_of-self : goal.invariant_of-self
invariant_of-self g c =
    let self = c.args.self.now in
    let some = c.if-self-eq0.false in
    record {
      ahead = known_more record_code IsRecord one_record (window self.parser) (window c.parse_known-entry.new.parser)
          (record_of c.parse_known-entry.result) self.left (self.left - 1) self.ahead c.parse_known-entry.ensures.entry
          (omega (arith, some));
    }

pub returns-clause-steps : goal.returns-clause-steps
returns-clause-steps g c =
    let self = c.args.self.now in
    let some = c.if-self-eq0.false in
    known_then record_code IsRecord one_record (window self.parser) (window c.parse_known-entry.new.parser)
    (record_of c.parse_known-entry.result) self.left (self.left - 1) self.ahead c.parse_known-entry.ensures.entry
    (omega (arith, some))
    c.self-1.given.0

pub returns-clause-goes : goal.returns-clause-goes
returns-clause-goes g c =
    let less = fewer (record_of c.parse_known-entry.result) c.args.self.now.ahead.0 c.self-1.given.0.0
    (returns-clause-steps g c) in
    record { on = λ finite. (tt, finite, less); keeps = tt; rests = λ _. tt }
