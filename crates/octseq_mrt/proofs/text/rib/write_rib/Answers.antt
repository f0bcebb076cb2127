use Rattle.std.proofs.Common.{rules, codes, refl}
use Rattle.octseq_bgp.specs.MessageText.{line}
use Rattle.octseq_mrt.specs.Parsed.{rib_of}
use Rattle.octseq_mrt.specs.RecordText.{rib_text}
use Rattle.octseq_mrt.proofs.Lines.{after_line}
use Rattle.octseq_mrt.proofs.text.rib.write_rib.Goals as goal

pub returns : goal.returns
returns g c = after_line _ _ c.write_entries.result
    (line (codes "rib") (rib_text c.args.header (rib_of c.args.rib.now)))
    (λ plain. search rules) (λ more is. (more, is, refl)) c.write_entries.ensures
