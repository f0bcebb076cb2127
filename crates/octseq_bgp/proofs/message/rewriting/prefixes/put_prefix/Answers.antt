use Rattle.std.proofs.Common.{◌+◌, length, sym, ◌∙◌, subst}
use Rattle.octseq.specs.Limit.{IsWithin}
use Rattle.octseq_bgp.specs.Lists.{nlri_of}
use Rattle.octseq_bgp.specs.Puts.{AppendsSomeUnlimited}
use Rattle.octseq_bgp.proofs.Rewriting.{written_again}
use Rattle.octseq_bgp.proofs.message.rewriting.prefixes.put_prefix.Goals as goal

pub put_slice-requires : goal.put_slice-requires
put_slice-requires g c =
    let prefix = c.prefix-prefix in
    let is = c.as_slice.ensures ∙ c.new-octets.ensures.octets
    ∙ written_again (nlri_of c.args.nlri.now) prefix.result c.requires.bits prefix.ensures.len prefix.ensures.address in
    let content = g.B.AsOctets.content in
    subst (λ o. IsWithin g.B.AsOctets.limit (length (content c.args.builder.now) + length o)) (sym is) c.requires.within

pub returns-clause-puts : goal.returns-clause-puts
returns-clause-puts g c =
    let prefix = c.prefix-prefix in
    let is = c.as_slice.ensures ∙ c.new-octets.ensures.octets
    ∙ written_again (nlri_of c.args.nlri.now) prefix.result c.requires.bits prefix.ensures.len prefix.ensures.address in
    let content = g.B.AsOctets.content in
    subst (λ o. AppendsSomeUnlimited g.B.AsOctets.asks c.put_slice.result o (content c.args.builder.now)
    (content c.put_slice.new.builder)) is
    c.put_slice.ensures.some
