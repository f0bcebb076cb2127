use Rattle.std.proofs.Common.{◌++◌, length, ap, sym, ◌∙◌, arith, append_assoc, length-append}
use Rattle.octseq.specs.Integer.{octets_be}
use Rattle.octseq.proofs.Written.{length_be, made_be_2}
use Rattle.octseq_bgp.proofs.message.update_builder.octets.put_lengths.Goals as goal

pub returns-clause-content : goal.returns-clause-content
returns-clause-content g c h x w y a n is long two first width second =
    let k = c.to_be_bytes.result in
    let one = c.to_be_bytes.ensures ∙ made_be_2 c.args.withdrawn ∙ ap (octets_be 2) (sym first) in
    let other = c.to_be_bytes-2.ensures ∙ made_be_2 c.args.attributes ∙ ap (octets_be 2) (sym second) in
    let wide = ap length one ∙ length_be 2 (length w) in
    let counted = c.write_over.ensures.content h x (w ++ (y ++ (a ++ n))) is long (omega (arith, two, wide)) in
    c.write_over-2.ensures.content (h ++ (k ++ w)) y (a ++ n) (counted ∙ simp append_assoc)
    (simp length-append (omega (arith, long, wide, first)))
    (omega (arith, width, ap length other ∙ length_be 2 (length a)))
    ∙ ap (λ o. (h ++ (o ++ w)) ++ (c.to_be_bytes-2.result ++ (a ++ n))) one
    ∙ ap (λ o. (h ++ (octets_be 2 (length w) ++ w)) ++ (o ++ (a ++ n))) other ∙ simp append_assoc
