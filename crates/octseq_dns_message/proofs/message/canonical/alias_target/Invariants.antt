-- What was passed doesn't make the name an alias.
use Rattle.std.proofs.Common.{◌+◌, ◌*◌, ◌≤◌, length}
use Rattle.octseq_dns_message.specs.AliasTurns.{alias_turns}
use Rattle.octseq_dns_message.specs.Canonical.{IsAliasOf}
use Rattle.octseq_dns_message.specs.Walk.{records_left}
use Rattle.octseq_dns_name.specs.Name.{Name}
use Rattle.octseq_dns_name.specs.Read.{name_of}
use Rattle.octseq_dns_message.proofs.message.canonical.alias_target.Given as goal

abbrev pub invariant-loop-entry : goal.invariant-loop-entry
invariant-loop-entry g l = record {
  ready : (goal.iterator-loop-entry g).can_next l.entry-iterator;
  finite : (goal.iterator-loop-entry g).is_finite l.entry-iterator;
  on : (target : Name) → IsAliasOf l.class (records_left l.entry-iterator) (name_of l.name) target
      → IsAliasOf l.class (records_left l.fn.records) (name_of l.name) target;
  back : (target : Name) → IsAliasOf l.class (records_left l.fn.records) (name_of l.name) target
      → IsAliasOf l.class (records_left l.entry-iterator) (name_of l.name) target;
  some : l.fn.turns ≤ l.turns;
  least : (target : Name) (left : IsAliasOf l.class (records_left l.entry-iterator) (name_of l.name) target)
      (whole : IsAliasOf l.class (records_left l.fn.records) (name_of l.name) target)
      → l.fn.turns + alias_turns l.class (records_left l.fn.records) (name_of l.name) target whole
      ≤ l.turns + alias_turns l.class (records_left l.entry-iterator) (name_of l.name) target left;
  all : l.fn.turns + length (records_left l.fn.records) ≤ l.turns + length (records_left l.entry-iterator);
  turns : l.turns + 511 * length (records_left l.entry-iterator)
      ≤ l.fn.turns + 511 * length (records_left l.fn.records);
}
