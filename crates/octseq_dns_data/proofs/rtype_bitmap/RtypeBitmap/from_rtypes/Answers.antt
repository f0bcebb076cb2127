use Rattle.std.proofs.Common.{◌∙◌, ℕ, ◌<◌, ◌↔◌, List, length, sym, ap, subst}
use Rattle.std.specs.List.{Contains}
use Rattle.octseq.specs.Limit.{ExceedsLimit}
use Rattle.octseq_dns_data.specs.RtypeBitmap.{IsRtypeBitmap, types_of}
use Rattle.octseq_dns_data.proofs.rtype_bitmap.RtypeBitmap.from_rtypes.Goals as goal

pub returns-then-is_past-clause-short : goal.returns-then-is_past-clause-short
returns-then-is_past-clause-short g c =
    let long = c.len.ensures.content ∙ ap length c.octets_of-octets.ensures.octets in
    let past : ExceedsLimit g.B.AsOctets.limit c.len.result = c.is_past.ensures.past c.if-is_past.true in
    (λ _. subst (ExceedsLimit g.B.AsOctets.limit) long past, λ _. tt)

pub copied-requires-clause-bitmap : goal.copied-requires-clause-bitmap
copied-requires-clause-bitmap g c =
    let octets = c.as_ref.ensures.value ∙ c.octets_of-octets.ensures.octets in
    subst IsRtypeBitmap (sym octets) c.octets_of-octets.ensures.bitmap

pub returns-in-Ok-clause-types : goal.returns-in-Ok-clause-types
returns-in-Ok-clause-types g c =
    let octets = c.in-Ok.ensures.ok ∙ c.as_ref.ensures.value ∙ c.octets_of-octets.ensures.octets in
    let Says : List ℕ → Type 0 = λ octets. (rtype : ℕ) → rtype < 65536
    → Contains (types_of octets) rtype ↔ Contains c.args.rtypes.now rtype in
    subst Says (sym octets) c.octets_of-octets.ensures.types
