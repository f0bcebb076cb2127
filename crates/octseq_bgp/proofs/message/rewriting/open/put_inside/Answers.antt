use Rattle.std.proofs.Common.{◌+◌, ◌++◌, false, length, refl, sym, ap, ◌∙◌, subst}
use Rattle.octseq.specs.Limit.{IsWithin}
use Rattle.octseq.specs.Parser.{window}
use Rattle.octseq.specs.Window.{rest}
use Rattle.octseq_bgp.specs.Capability.{ParameterValue}
use Rattle.octseq_bgp.specs.CapabilityOf.{capabilities_left}
use Rattle.octseq_bgp.specs.WrittenOpen.{parameters_octets}
use Rattle.octseq_bgp.proofs.Appending.{if_ok}
use Rattle.octseq_bgp.proofs.WrittenBack.{items_back}
use Rattle.octseq_bgp.proofs.message.rewriting.open.put_inside.Goals as goal

pub put_capabilities-requires-clause-sound : goal.put_capabilities-requires-clause-sound
put_capabilities-requires-clause-sound g c =
    (items_back false (window c.args.parameter.now.value) _ c.requires.sound c.in-Capabilities.ensures.1).1

pub put_capabilities-requires-clause-within : goal.put_capabilities-requires-clause-within
put_capabilities-requires-clause-within g c =
    subst (λ o. IsWithin g.B.AsOctets.limit (length (g.B.AsOctets.content c.args.octets.now) + length o))
    (items_back false (window c.args.parameter.now.value) _ c.requires.sound c.in-Capabilities.ensures.1).0
    c.requires.within

pub put_slice-requires : goal.put_slice-requires
put_slice-requires g c =
    subst (λ o. IsWithin g.B.AsOctets.limit (length (g.B.AsOctets.content c.args.octets.now) + length o))
    (sym (c.peek_all.ensures.content ∙ ap rest c.in-Opaque.ensures.0)) c.requires.within

pub returns-in-Capabilities-clause-ok : goal.returns-in-Capabilities-clause-ok
returns-in-Capabilities-clause-ok g c = if_ok c.put_capabilities.result (λ put.
    let octets = parameters_octets false put.0 in (
      (c.args.parameter.now.kind, octets),
      (
        ParameterValue.capabilities (capabilities_left c.in-Capabilities.capabilities),
        octets,
        c.in-Capabilities.ensures,
        (put.0, put.1, refl),
        refl,
      ),
      put.2,
    )) c.put_capabilities.ensures.ok

pub returns-in-Opaque-clause-ok : goal.returns-in-Opaque-clause-ok
returns-in-Opaque-clause-ok g c =
    let w = window c.in-Opaque.read in
    if_ok c.put_slice.result (λ put. (
      (c.args.parameter.now.kind, rest w),
      (ParameterValue.opaque w, rest w, c.in-Opaque.ensures, refl, refl),
      put ∙ ap (λ o. g.B.AsOctets.content c.args.octets.now ++ o) c.peek_all.ensures.content,
    )) c.put_slice.ensures.puts.ok
