use Rattle.std.proofs.lemmas.Result.{on_ok_weaker}
use Rattle.octseq_mrt.specs.Parsed.{value_of}
use Rattle.octseq_mrt.proofs.text.lines.RecordDisplay.fmt.Goals as goal

pub returns : goal.returns
returns g c = record {
  shown = on_ok_weaker c.write_value.result
      (λ shown. (shown.0, (value_of c.value-value.result, c.value-value.ensures, shown.1), shown.2))
      c.write_value.ensures;
}
