use Rattle.std.proofs.Common.{◌++◌, refl, ap, ◌∙◌, arith}
use Rattle.octseq.specs.Part.{part_of}
use Rattle.octseq_bgp.specs.Composed.{header_octets, message_octets}
use Rattle.octseq_bgp.specs.Lists.{attributes_left, attributes_session, prefixes_left}
use Rattle.octseq_bgp.specs.Rewritten.{prefixes_anew}
use Rattle.octseq_bgp.specs.Written.{attributes_octets, body_octets, prefixes_octets}
use Rattle.octseq_bgp.proofs.Appending.{grown, if_ok, within_less}
use Rattle.octseq_bgp.proofs.Rewriting.{front_long, row_long, update_put}
use Rattle.octseq_bgp.proofs.message.rewriting.update.put_update.Goals as goal

pub put_withdrawn-requires-clause-total : goal.put_withdrawn-requires-clause-total
put_withdrawn-requires-clause-total g c = omega (arith, c.requires.total, c.requires.ready.size)

pub put_withdrawn-requires-clause-most : goal.put_withdrawn-requires-clause-most
put_withdrawn-requires-clause-most g c = omega (arith, c.requires.withdrawn, c.requires.ready.size)

pub put_withdrawn-requires-clause-few : goal.put_withdrawn-requires-clause-few
put_withdrawn-requires-clause-few g c = c.requires.ready.withdrawn

pub put_withdrawn-requires-clause-within : goal.put_withdrawn-requires-clause-within
put_withdrawn-requires-clause-within g c =
    let w = prefixes_octets (prefixes_anew (prefixes_left c.args.update.now.withdrawn)) in
    let front = front_long c.args.sizes.now.total w in
    within_less g.B.AsOctets.limit _ _ (omega (arith, front)) c.requires.within

pub put_others-requires-clause-most : goal.put_others-requires-clause-most
put_others-requires-clause-most g c = omega (arith, c.requires.attributes, c.requires.ready.size)

pub put_others-requires-clause-sound : goal.put_others-requires-clause-sound
put_others-requires-clause-sound g c = c.requires.ready.attributes

pub put_others-requires-clause-few : goal.put_others-requires-clause-few
put_others-requires-clause-few g c = c.requires.ready.announced

pub put_others-requires-clause-within : goal.put_others-requires-clause-within
put_others-requires-clause-within g c =
    let w = prefixes_octets (prefixes_anew (prefixes_left c.args.update.now.withdrawn)) in
    let front = front_long c.args.sizes.now.total w in
    let content = g.B.AsOctets.content in
    let put = grown (content c.args.builder.now) (content c.put_withdrawn.new.builder)
    (header_octets c.args.sizes.now.total 2 ++ part_of 2 w) c.in_ok-put_withdrawn.ensures.puts.ok in
    within_less g.B.AsOctets.limit _ _ (omega (arith, front, put)) c.requires.within

pub returns-clause-ok : goal.returns-clause-ok
returns-clause-ok g c =
    let u = c.args.update.now in
    let old = g.B.AsOctets.content c.args.builder.now in
    let w = prefixes_octets (prefixes_anew (prefixes_left u.withdrawn)) in
    let n = prefixes_octets (prefixes_anew (prefixes_left u.announced)) in
    if_ok c.put_others.result (λ put. (
      message_octets 2 (body_octets w (attributes_octets put.0) n),
      (put.0, put.1, refl),
      let row = row_long (attributes_session u.path_attributes) (attributes_left u.path_attributes) put.0
          c.requires.ready.attributes put.1 in
          put.2 ∙ ap (λ m. m ++ (part_of 2 (attributes_octets put.0) ++ n)) c.in_ok-put_withdrawn.ensures.puts.ok
          ∙ update_put old w (attributes_octets put.0) n c.args.sizes.now.total (omega (arith, row, c.requires.total)),
    )) c.put_others.ensures.ok
