use Rattle.std.proofs.Common.{rules, codes, refl}
use Rattle.octseq_bgp.specs.MessageText.{line}
use Rattle.octseq_mrt.specs.Parsed.{entry_of}
use Rattle.octseq_mrt.specs.Text.{entry_text}
use Rattle.octseq_mrt.proofs.Lines.{after_line}
use Rattle.octseq_mrt.proofs.text.rib.write_entry.Goals as goal

pub returns : goal.returns
returns g c = after_line _ _ c.write_attributes.result (line (codes "entry") (entry_text (entry_of c.args.entry.now)))
    (λ plain. search rules) (λ more is. (more, is, refl)) c.write_attributes.ensures
