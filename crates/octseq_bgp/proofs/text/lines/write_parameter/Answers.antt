use Rattle.std.proofs.Common.{◌++◌, codes, refl, sym, subst}
use Rattle.std.specs.Fmt.{HasWritten, IsPlainFormatter, decimal}
use Rattle.octseq.specs.Parser.{window}
use Rattle.octseq_bgp.specs.CapabilityOf.{parameter_value_of}
use Rattle.octseq_bgp.specs.CapabilityText.{parameter_text}
use Rattle.octseq_bgp.specs.MessageText.{line, AreParameterValueLines}
use Rattle.octseq_bgp.specs.OctetsText.{spaced}
use Rattle.octseq.specs.OctetsText.{opaque_text}
use Rattle.octseq_bgp.proofs.Shown.{shown_of}
use Rattle.octseq_bgp.proofs.text.lines.write_parameter.Goals as goal

pub returns-in-Opaque : goal.returns-in-Opaque
returns-in-Opaque g c =
    let took = g.W.Write.write_str_gives in
    let after = c.write_opaque_parameter.new.f in
    let kind = c.args.kind in
    let text = line (codes "parameter") (parameter_text kind (window c.in-Opaque.parser)) in
    shown_of c.write_opaque_parameter.result (AreParameterValueLines kind (parameter_value_of c.args.value.now))
    (IsPlainFormatter c.args.f.now) (λ lines. HasWritten took c.args.f.now lines after) text
    (subst (λ v. AreParameterValueLines kind (parameter_value_of v) text) (sym c.in-Opaque.is) refl)
    (λ plain ok. subst (λ octets. HasWritten took c.args.f.now
    (line (codes "parameter") (decimal kind ++ spaced (opaque_text octets))) after) c.peek_all.ensures.content
    (c.write_opaque_parameter.ensures plain ok))
