use Rattle.std.proofs.Common.{length, ◌+◌, ◌-◌, ◌<◌}
use Rattle.octseq_utf8.specs.Search.{IsAfter}
use Rattle.octseq_utf8.proofs.finder.fault_by_parts.Given as goal

abbrev pub invariant-loop-at : goal.invariant-loop-at
invariant-loop-at l = record {
  after : IsAfter l.octets l.from l.at l.fn.turns l.turns;
  few : length l.octets < l.at + 4;
}

abbrev pub decreases-loop-at : goal.decreases-loop-at
decreases-loop-at l = length l.initial.octets - l.at
