use Rattle.std.proofs.Common.{◌∷◌, ◌++◌, ap, sym, ◌∙◌, append_assoc, rules}
use Rattle.std.proofs.Output.{has_written_append}
use Rattle.octseq_dns_data.specs.DataText.{strings_after}
use Rattle.octseq.specs.OctetsText.{string_text}
use Rattle.octseq_dns_data.specs.Txt.{strings_left, string_octets}
use Rattle.octseq_dns_data.proofs.data.txt.TxtDisplay.fmt.Goals as goal

pub loop-string-preserved : goal.loop-string-preserved
loop-string-preserved g c = λ plain.
    let so_far = c.loop-string.invariant plain in
    let text = 32 ∷ string_text (string_octets c.in-Some-string.string) in (
      so_far.0 ++ text,
      has_written_append _ _ _ _ _ _ so_far.1 (search rules),
      append_assoc so_far.0 text (strings_after (strings_left c.next-in-loop-string.new.self))
          ∙ ap (λ strings. so_far.0 ++ strings_after strings) (sym c.in-Some-string.ensures.steps.0) ∙ so_far.2,
    )
