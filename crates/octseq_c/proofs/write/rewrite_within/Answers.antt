use Rattle.std.proofs.Common.{ap, ◌∙◌, length, subst, Some}
use Rattle.octseq.specs.Limit.{IsWithin}
use Rattle.octseq_dns_compress.specs.Composed.{message_limit}
use Rattle.octseq_c.proofs.Puts.{copies}
use Rattle.octseq_c.proofs.write.rewrite_within.Goals as goal

pub returns-in-Ok-clause-made : goal.returns-in-Ok-clause-made
returns-in-Ok-clause-made g c =
    let done = c.in-Ok.ensures.rewritten in
    let (m, is) = done.contents in
    let octets = ap (λ s. s.octets) (done.written m is).state_is in
    let put = c.put.ensures in (
      m,
      is,
      subst (λ o. IsWithin (message_limit (Some g.row.N)) (length o)) octets done.fits,
      copies (c.as_slice.ensures ∙ octets) put.count put.ok put.no_room,
    )
