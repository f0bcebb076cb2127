use Rattle.std.proofs.Common.{rules, codes, refl}
use Rattle.std.proofs.Output.{has_written_append}
use Rattle.std.proofs.lemmas.Result.{on_ok_weaker}
use Rattle.std.specs.Fmt.{HasWritten}
use Rattle.octseq_bgp.specs.MessageText.{line, open_text}
use Rattle.octseq_bgp.specs.Parsed.{open_of}
use Rattle.octseq_bgp.proofs.text.lines.OpenMessageDisplay.fmt.Goals as goal

pub returns : goal.returns
returns g c = record {
  shown = on_ok_weaker c.write_parameters.result
      (λ added. (
        _,
        (added.0, added.1, refl),
        λ plain.
            let head : HasWritten g.W.Write.write_str_gives c.args.f.now
            (line (codes "open") (open_text (open_of c.args.self.now))) c.write_open_line.new.f = search rules in
            has_written_append _ _ _ _ _ _ head (added.2 head.plain),
      ))
      c.write_parameters.ensures;
}
