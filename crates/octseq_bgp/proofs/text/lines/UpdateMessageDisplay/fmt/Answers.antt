use Rattle.std.proofs.Common.{rules, ◌++◌, codes, refl}
use Rattle.std.proofs.Output.{has_written_append}
use Rattle.std.specs.Fmt.{HasWritten, IsPlainFormatter}
use Rattle.octseq_bgp.specs.Lists.{prefixes_left}
use Rattle.octseq_bgp.specs.MessageText.{nlri_lines, IsUpdateText}
use Rattle.octseq_bgp.specs.Parsed.{update_of}
use Rattle.octseq_bgp.proofs.Shown.{shown_of}
use Rattle.octseq_bgp.proofs.text.lines.UpdateMessageDisplay.fmt.Goals as goal

pub returns : goal.returns
returns g c = record {
  shown =
      let took = g.W.Write.write_str_gives in
      let u = c.args.self.now in
      let withdrawn = nlri_lines (codes "withdrawn") (prefixes_left u.withdrawn) in
      let announced = nlri_lines (codes "announced") (prefixes_left u.announced) in
      let lines = c.in_ok-write_attributes.ensures in
      shown_of c.write_prefixes-2.result (IsUpdateText (update_of u)) (IsPlainFormatter c.args.f.now)
      (λ text. HasWritten took c.args.f.now text c.write_prefixes-2.new.f)
      (codes "update\n" ++ withdrawn ++ lines.0 ++ announced) (lines.0, lines.1, refl)
      (λ plain ok.
      let one : HasWritten took c.args.f.now (codes "update\n") c.write_str.new.self = search rules in
      let two : HasWritten took c.write_str.new.self withdrawn c.write_prefixes.new.f = search rules in
      let three = has_written_append _ _ _ _ _ _ one two in
      let four = has_written_append _ _ _ _ _ _ three (lines.2 two.plain) in
      let five : HasWritten took c.write_attributes.new.f announced c.write_prefixes-2.new.f = search rules in
      has_written_append _ _ _ _ _ _ four five);
}
