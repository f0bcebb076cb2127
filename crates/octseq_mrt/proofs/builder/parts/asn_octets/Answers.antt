use Rattle.std.proofs.Common.{sym, ap, ◌∙◌, take, drop}
use Rattle.octseq.specs.Integer.{octets_be}
use Rattle.octseq_bgp.specs.Path.{asn_size}
use Rattle.octseq_mrt.proofs.builder.parts.asn_octets.Goals as goal

pub returns-else-wide : goal.returns-else-wide
unfolding octets_be
returns-else-wide c = λ n is.
    ap (λ o. take 2 (drop 2 o)) is ∙ ap (λ wide. octets_be (asn_size wide) n) (sym c.if-wide.false)
