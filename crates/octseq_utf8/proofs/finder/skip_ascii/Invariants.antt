use Rattle.std.proofs.Common.{length, ◌-◌}
use Rattle.octseq_utf8.proofs.Search.{Passes}
use Rattle.octseq_utf8.proofs.finder.skip_ascii.Given as goal

abbrev pub invariant-loop-at : goal.invariant-loop-at
invariant-loop-at l = Passes l.octets l.from l.at l.fn.turns l.turns

abbrev pub decreases-loop-at : goal.decreases-loop-at
decreases-loop-at l = length l.initial.octets - l.at
