use Rattle.std.proofs.Common.{rules, codes, refl}
use Rattle.octseq_bgp.specs.MessageText.{line}
use Rattle.octseq_mrt.specs.Parsed.{bgp4mp_of}
use Rattle.octseq_mrt.specs.RecordText.{session_text}
use Rattle.octseq_mrt.proofs.Lines.{after_line}
use Rattle.octseq_mrt.proofs.text.lines.write_bgp4mp.Goals as goal

pub returns : goal.returns
returns g c = after_line _ _ c.write_event.result
    (line (codes "bgp4mp") (session_text c.args.header (bgp4mp_of c.args.it.now)))
    (λ plain. search rules) (λ more is. (more, is, refl)) c.write_event.ensures
