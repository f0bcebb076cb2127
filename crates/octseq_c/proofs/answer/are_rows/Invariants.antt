-- All rows are valid exactly if those ahead are.
use Rattle.std.proofs.Common.{◌↔◌, drop}
use Rattle.std.specs.List.{AllByRecursion}
use Rattle.octseq_c.specs.Made.{IsRow}
use Rattle.octseq_c.proofs.answer.are_rows.Given as goal

abbrev pub invariant-loop-row : goal.invariant-loop-row
invariant-loop-row l =
    AllByRecursion (IsRow l.source) (drop l.row-index l.rows) ↔ AllByRecursion (IsRow l.source) l.rows
