-- What was passed isn't of the type.
use Rattle.std.proofs.Common.{◌≡◌}
use Rattle.octseq_dns_message.specs.Limited.{limited_left}
use Rattle.octseq_dns_message.specs.OfType.{of_type}
use Rattle.octseq_dns_message.specs.Walk.{records_left}
use Rattle.octseq_dns_message.proofs.message.limited.RecordsOfTypeIterator.next.Given as goal

abbrev pub invariant-passed : goal.invariant-passed
invariant-passed g l = record {
  ready : (goal.iterator-passed g).can_next l.records;
  finite : (goal.iterator-passed g).is_finite l.records;
  left : of_type l.rtype (records_left l.records) ≡ limited_left l.fn.self;
  same : l.rtype ≡ l.self.rtype;
}
