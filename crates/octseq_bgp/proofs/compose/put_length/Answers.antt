use Rattle.std.proofs.Common.{◌++◌, ◌+◌, length, replicate, refl, sym, ap, ◌∙◌}
use Rattle.octseq.specs.Integer.{octets_be}
use Rattle.octseq.proofs.Written.{made_be_2, length_be}
use Rattle.octseq_bgp.specs.Composed.{long_after}
use Rattle.octseq_bgp.proofs.Composing.{header_parts}
use Rattle.octseq_bgp.proofs.compose.put_length.Goals as goal

pub returns-clause-content : goal.returns-clause-content
returns-clause-content g c n kind body is =
    let long = ap length is ∙ long_after n kind body in
    let put = c.to_be_bytes-length.ensures ∙ made_be_2 c.len.result
    ∙ ap (octets_be 2) (c.len.ensures.content ∙ long) in
    c.write_over.ensures.content (replicate 16 255) (octets_be 2 n) (octets_be 1 kind ++ body)
    (is ∙ header_parts n kind body) refl (length_be 2 n ∙ sym (ap length put ∙ length_be 2 (19 + length body)))
    ∙ ap (λ o. replicate 16 255 ++ (o ++ (octets_be 1 kind ++ body))) put
    ∙ sym (header_parts (19 + length body) kind body)
