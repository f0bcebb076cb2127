use Rattle.std.proofs.Common.{◌++◌, refl, sym, ap, ◌∙◌, arith, append_assoc}
use Rattle.octseq.specs.Parser.{window}
use Rattle.octseq_bgp.specs.Lists.{attribute_of}
use Rattle.octseq_bgp.specs.Rewritten.{attribute_anew, attribute_size, flags_anew, value_anew}
use Rattle.octseq_bgp.specs.ValueOf.{value_of}
use Rattle.octseq_bgp.specs.Written.{head_octets}
use Rattle.octseq_bgp.proofs.AnewUpdates.{value_formed}
use Rattle.octseq_bgp.proofs.Appending.{grown, if_ok, within_less}
use Rattle.octseq_bgp.proofs.Rewriting.{attribute_is, head_long}
use Rattle.octseq_bgp.proofs.message.rewriting.attributes.put_attribute.Goals as goal

pub put_head-requires-clause-few : goal.put_head-requires-clause-few
put_head-requires-clause-few g c = let left = c.remaining-len.ensures.left in let few = c.requires.few in omega
    (arith, left, few)

pub put_head-requires-clause-within : goal.put_head-requires-clause-within
put_head-requires-clause-within g c =
    let it = c.args.attribute.now in
    let v = value_of c.value-value.result in
    let kept = (value_formed it.session (window it.value) c.requires.sound it.type_code v c.value-value.ensures).kept in
    let head = head_long (attribute_of it) v c.remaining-len.result (kept.long ∙ sym c.remaining-len.ensures.rest) in
    let size = ap attribute_size c.remaining-len.ensures.left in
    within_less g.B.AsOctets.limit _ _ (omega (arith, head, size)) c.requires.within

pub put_value-requires-clause-fits : goal.put_value-requires-clause-fits
put_value-requires-clause-fits g c =
    let it = c.args.attribute.now in
    (value_formed it.session (window it.value) c.requires.sound it.type_code (value_of c.value-value.result)
    c.value-value.ensures).fits

pub put_value-requires-clause-within : goal.put_value-requires-clause-within
put_value-requires-clause-within g c =
    let it = c.args.attribute.now in
    let v = value_of c.value-value.result in
    let kept = (value_formed it.session (window it.value) c.requires.sound it.type_code v c.value-value.ensures).kept in
    let long = kept.long ∙ sym c.remaining-len.ensures.rest in
    let head = head_long (attribute_of it) v c.remaining-len.result long in
    let size = ap attribute_size c.remaining-len.ensures.left in
    let put = grown (g.B.AsOctets.content c.args.builder.now) (g.B.AsOctets.content c.put_head.new.builder)
    (head_octets (flags_anew it.flags.0 c.remaining-len.result) it.type_code c.remaining-len.result)
    c.in_ok-put_head.ensures.puts.ok in
    within_less g.B.AsOctets.limit _ _ (omega (arith, head, size, long, put)) c.requires.within

pub returns-clause-ok : goal.returns-clause-ok
returns-clause-ok g c =
    let it = c.args.attribute.now in
    let a = attribute_of it in
    let w = window it.value in
    let v = value_of c.value-value.result in
    let n = c.remaining-len.result in
    let kept = (value_formed it.session w c.requires.sound it.type_code v c.value-value.ensures).kept in
    let old = g.B.AsOctets.content c.args.builder.now in
    let head = head_octets (flags_anew it.flags.0 n) it.type_code n in
    if_ok c.put_value.result (λ put. (
      attribute_anew a v,
      (v, c.value-value.ensures, refl),
      put ∙ ap (λ m. m ++ value_anew w v) c.in_ok-put_head.ensures.puts.ok ∙ append_assoc old head (value_anew w v)
          ∙ ap (λ o. old ++ o) (attribute_is a v n (kept.long ∙ sym c.remaining-len.ensures.rest)),
    )) c.put_value.ensures.puts.ok
