-- All data can be moved exactly if the data ahead can.
use Rattle.std.proofs.Common.{◌↔◌, drop}
use Rattle.std.specs.List.{AllByRecursion}
use Rattle.octseq_c.specs.Made.{CanMoveRow}
use Rattle.octseq_c.proofs.answer.can_move_rows.Given as goal

abbrev pub invariant-loop-row : goal.invariant-loop-row
invariant-loop-row l =
    AllByRecursion (CanMoveRow l.source) (drop l.row-index l.rows) ↔ AllByRecursion (CanMoveRow l.source) l.rows
