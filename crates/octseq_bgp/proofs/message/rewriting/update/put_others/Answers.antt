use Rattle.std.proofs.Common.{◌++◌, length, sym, ap, ◌∙◌, arith}
use Rattle.octseq.proofs.Written.{length_be}
use Rattle.octseq.specs.Integer.{octets_be}
use Rattle.octseq_bgp.specs.Lists.{attributes_left, attributes_session, prefixes_left}
use Rattle.octseq_bgp.specs.Rewritten.{prefixes_anew}
use Rattle.octseq_bgp.specs.Written.{attributes_octets, prefixes_octets}
use Rattle.octseq_bgp.proofs.Appending.{grown, if_ok, within_less}
use Rattle.octseq_bgp.proofs.Rewriting.{others_put, row_long}
use Rattle.octseq_bgp.proofs.message.rewriting.update.put_others.Goals as goal

pub put_u16-requires : goal.put_u16-requires
put_u16-requires g c =
    let two = length_be 2 c.args.sizes.now.attributes in
    within_less g.B.AsOctets.limit _ _ (omega (arith, two)) c.requires.within

pub put_attributes-requires-clause-within : goal.put_attributes-requires-clause-within
put_attributes-requires-clause-within g c =
    let two = length_be 2 c.args.sizes.now.attributes in
    let content = g.B.AsOctets.content in
    let one = grown (content c.args.builder.now) (content c.put_u16.new.builder)
    (octets_be 2 c.args.sizes.now.attributes)
    c.in_ok-put_u16.ensures.puts.ok in
    within_less g.B.AsOctets.limit _ _ (omega (arith, one, two)) c.requires.within

pub put_prefixes-requires-clause-within : goal.put_prefixes-requires-clause-within
put_prefixes-requires-clause-within g c =
    let two = length_be 2 c.args.sizes.now.attributes in
    let content = g.B.AsOctets.content in
    let one = grown (content c.args.builder.now) (content c.put_u16.new.builder)
    (octets_be 2 c.args.sizes.now.attributes)
    c.in_ok-put_u16.ensures.puts.ok in
    let row = c.in_ok-put_attributes.ensures.ok in
    let more = grown (content c.put_u16.new.builder) (content c.put_attributes.new.builder) (attributes_octets row.0)
    row.2 in
    let long = row_long _ _ row.0 c.requires.sound row.1 in
    within_less g.B.AsOctets.limit _ _ (omega (arith, one, two, more, long)) c.requires.within

pub returns-clause-ok : goal.returns-clause-ok
returns-clause-ok g c =
    let u = c.args.update.now in
    let old = g.B.AsOctets.content c.args.builder.now in
    let row = c.in_ok-put_attributes.ensures.ok in
    let long = row_long (attributes_session u.path_attributes) (attributes_left u.path_attributes) row.0
    c.requires.sound row.1 in
    let len = c.requires.attributes ∙ sym long in
    if_ok c.put_prefixes.result (λ put. (
      row.0,
      row.1,
      put ∙ ap (λ m. m ++ prefixes_octets (prefixes_anew (prefixes_left u.announced))) row.2
          ∙ ap (λ m. (m ++ attributes_octets row.0) ++ prefixes_octets (prefixes_anew (prefixes_left u.announced)))
          (c.in_ok-put_u16.ensures.puts.ok ∙ ap (λ n. old ++ octets_be 2 n) len)
          ∙ others_put old (octets_be 2 (length (attributes_octets row.0))) (attributes_octets row.0)
          (prefixes_octets (prefixes_anew (prefixes_left u.announced))),
    )) c.put_prefixes.ensures.puts.ok
