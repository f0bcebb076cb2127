-- The fields that were taken, and any that are left, are all fields. What follows their rows is unchanged.
use Rattle.std.proofs.Common.{◌≡◌, ◌++◌, ◌≤◌, List, drop, length}
use Rattle.octseq.specs.Parser.{window}
use Rattle.octseq.specs.Window.{Window, left}
use Rattle.octseq_c.specs.Fields.{AreFieldRows}
use Rattle.octseq_c.specs.declared.fields.FieldRow.{FieldRow}
use Rattle.octseq_c.proofs.fields.take_fields.Given as goal

abbrev pub invariant-loop-field : goal.invariant-loop-field
invariant-loop-field g l = record {
  done : List FieldRow;
  long : length done ≡ l.field-index;
  same : l.at ≡ l.field-index;
  onward : left (window l.parser) ≤ left (window l.fn.parser);
  whole : (more : List FieldRow) (end : Window)
      → AreFieldRows (drop l.field-index l.fields) (window l.parser) more end
      → AreFieldRows l.fields (window l.fn.parser) (done ++ more) end;
  ahead : (rows : List FieldRow) (end : Window) → AreFieldRows l.fields (window l.fn.parser) rows end
      → (more : List FieldRow) × AreFieldRows (drop l.field-index l.fields) (window l.parser) more end;
  written : l.front ≡ done ++ drop l.field-index l.fn.front;
}
