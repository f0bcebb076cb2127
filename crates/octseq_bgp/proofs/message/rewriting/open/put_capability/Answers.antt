use Rattle.std.proofs.Common.{◌+◌, false, length, refl, sym, ap, ◌∙◌, subst}
use Rattle.octseq.specs.Integer.{octets_be}
use Rattle.octseq.specs.Limit.{IsWithin}
use Rattle.octseq.specs.Parser.{window}
use Rattle.octseq.specs.Window.{rest}
use Rattle.octseq_bgp.specs.CapabilityOf.{capability_of, capability_value_of}
use Rattle.octseq_bgp.specs.OneOpen.{says_parameter}
use Rattle.octseq_bgp.specs.RewrittenOpen.{capability_anew}
use Rattle.octseq_bgp.specs.WrittenOpen.{WrittenParameter}
use Rattle.octseq_bgp.proofs.AnewOpens.{value_kept}
use Rattle.octseq_bgp.proofs.Appending.{if_ok}
use Rattle.octseq_bgp.proofs.RewrittenOpens.{both_put, head_within, inside_within, low_octet}
use Rattle.octseq_bgp.proofs.message.rewriting.open.put_capability.Goals as goal

pub put_head-requires-clause-within : goal.put_head-requires-clause-within
put_head-requires-clause-within g c =
    head_within g.B.AsOctets.limit false _ (says_parameter (capability_of c.args.capability.now)) _ _ c.requires.within

pub put_value-requires : goal.put_value-requires
put_value-requires g c =
    let v = capability_value_of c.value-value.result in
    let kept = value_kept _ _ v c.requires.sound c.value-value.ensures in
    let long = ap (λ o. length (capability_anew v o)) c.peek_all-read.ensures.content ∙ kept.long in
    let there = inside_within g.B.AsOctets.limit false _ _ (says_parameter (capability_of c.args.capability.now)) _ _
    c.requires.within c.in_ok-put_head.ensures.puts.ok in
    record {
      within = subst (λ n. IsWithin g.B.AsOctets.limit (length (g.B.AsOctets.content c.put_head.new.octets) + n))
          (sym long)
          there;
    }

pub returns-clause-ok : goal.returns-clause-ok
returns-clause-ok g c =
    let it = c.args.capability.now in
    let v = capability_value_of c.value-value.result in
    let read = c.peek_all-read.ensures.content in
    let kept = value_kept _ _ v c.requires.sound c.value-value.ensures in
    let x : WrittenParameter = (it.code, capability_anew v (rest (window it.octets))) in
    if_ok c.put_value.result (λ put. (
      x,
      (v, c.value-value.ensures, refl),
      both_put false _ _ _ x it.code _ _ c.in_ok-put_head.ensures.puts.ok put refl
          (low_octet _ ∙ ap (octets_be 1) (ap length read ∙ sym kept.long)) (ap (capability_anew v) read),
    )) c.put_value.ensures.puts.ok
