-- Each family so far has, and a turn was counted for each.
use Rattle.std.proofs.Common.{◌+◌, ◌≤◌, length}
use Rattle.std.specs.Prelude.{◌↔◌}
use Rattle.octseq_bgp.specs.Capability.{ArePaths}
use Rattle.octseq_bgp.specs.Items.{items_left}
use Rattle.octseq_bgp.proofs.capability.value.are_paths.Given as goal

abbrev pub invariant-items : goal.invariant-items
invariant-items g l = record {
  are : ArePaths (items_left l.fn.items) ↔ ArePaths (items_left l.ahead);
  some : l.fn.turns ≤ l.turns;
  least : l.fn.turns + length (items_left l.fn.items) ≤ l.turns + length (items_left l.ahead);
  turns : l.turns + length (items_left l.ahead) ≤ l.fn.turns + length (items_left l.fn.items);
}

abbrev pub decreases-items : goal.decreases-items
decreases-items g l = length (items_left l.ahead)
