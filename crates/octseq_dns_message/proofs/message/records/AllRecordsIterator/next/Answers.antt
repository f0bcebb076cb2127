use Rattle.std.proofs.Common.{ap, sym, subst, ◌∙◌, ◌∷◌, length, arith, refl}
use Rattle.std.specs.List.{zip}
use Rattle.octseq.specs.Parser.{window}
use Rattle.octseq_dns_message.specs.Entry.{IsRecord}
use Rattle.octseq_dns_message.specs.Listed.{listed_of}
use Rattle.octseq_dns_message.specs.OneEntry.{one_record, record_code}
use Rattle.octseq_dns_message.specs.Said.{record_of}
use Rattle.octseq_dns_message.specs.Section.{sections_in}
use Rattle.octseq_dns_message.proofs.Known.{known_first, known_more, known_then}
use Rattle.octseq_format.proofs.RowSteps.{held_none, fewer}
use Rattle.octseq_dns_message.proofs.message.records.AllRecordsIterator.next.Goals as goal

pub returns-in_default-clause-steps : goal.returns-in_default-clause-steps
returns-in_default-clause-steps g c =
    let self = c.args.self.now in
    let none = ap length (c.in_default.ensures.none refl) in
    let empty = ap (λ records. zip records (sections_in self.left)) (held_none record_code IsRecord
    (window self.parser) (length (sections_in self.left)) self.ahead none) in
    (empty, empty)

pub parse_known-entry-requires : goal.parse_known-entry-requires
parse_known-entry-requires g c =
    let self = c.args.self.now in
    let some = ap length c.in-Some.ensures.some in
    known_first IsRecord (window self.parser) (length (sections_in self.left)) self.ahead (omega (arith, some))

pub invariant_of-self : goal.invariant_of-self
invariant_of-self g c =
    let self = c.args.self.now in
    let some = ap length c.in-Some.ensures.some in
    record {
      ahead = known_more record_code IsRecord one_record (window self.parser) (window c.parse_known-entry.new.parser)
          (record_of c.parse_known-entry.result) (length (sections_in self.left))
          (length (sections_in c.in-Some.first.1)) self.ahead c.parse_known-entry.ensures.entry (omega (arith, some));
    }

pub returns-clause-steps : goal.returns-clause-steps
returns-clause-steps g c =
    let self = c.args.self.now in
    let some = ap length c.in-Some.ensures.some in
    let records = known_then record_code IsRecord one_record (window self.parser)
    (window c.parse_known-entry.new.parser) (record_of c.parse_known-entry.result) (length (sections_in self.left))
    (length (sections_in c.in-Some.first.1)) self.ahead c.parse_known-entry.ensures.entry (omega (arith, some))
    c.self-1.given.0 in
    ap (λ records. zip records (sections_in self.left)) records
    ∙ ap (zip (record_of c.parse_known-entry.result ∷ c.self-1.given.0.0)) c.in-Some.ensures.some

pub returns-clause-goes : goal.returns-clause-goes
returns-clause-goes g c =
    let less = fewer _ _ _ (returns-clause-steps g c) in
    record { on = λ finite. (tt, finite, less); keeps = tt; rests = λ _. tt }
