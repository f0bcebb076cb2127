use Rattle.std.proofs.Common.{◌≡◌, [], ◌∷◌, true, Err, Ok, inl, subst, ◌∙◌}
use Rattle.octseq.specs.Integer.{octets_be}
use Rattle.octseq.proofs.Written.{made_be_2}
use Rattle.octseq_dns_name.specs.Read.{labels_of}
use Rattle.octseq_dns_compress.specs.Composed.{Composes, message_limit}
use Rattle.octseq_dns_compress.specs.State.{Field, with_octets}
use Rattle.octseq_dns_compress.proofs.Composes.{composes_or, composes_refused, composes_then}
use Rattle.octseq_dns.proofs.rdata.compose_mx.Goals as goal

pub returns-in-Err-clause-composed : goal.returns-in-Err-clause-composed
returns-in-Err-clause-composed g c =
    let limit = message_limit g.B.AsOctets.limit in
    let old = c.args.message.now in
    let new = c.append_slice.new.self in
    let e = c.in-Err.error in
    let preference = c.args.mx.now.preference in
    composes_refused limit g.T.Compressor.most e (with_octets old.state (octets_be 2 preference))
    (Field.name (labels_of c.args.mx.now.exchange) ∷ []) old new
    (composes_or limit (Err e) (with_octets old.state (octets_be 2 preference)) old new (λ a. inl a)
    (subst (λ o. Composes limit (g.B.AsOctets.asks ≡ true) (Err e) (with_octets old.state o) old new)
    (c.to_be_bytes.ensures ∙ made_be_2 preference) c.in-Err.ensures.composed))

pub returns-clause-composed : goal.returns-clause-composed
returns-clause-composed g c =
    let limit = message_limit g.B.AsOctets.limit in
    let old = c.args.message.now in
    let then = c.append_slice.new.self in
    let preference = c.args.mx.now.preference in
    let u = c.in_default.field-0 in
    composes_then limit g.T.Compressor.most u c.append_name.result (with_octets old.state (octets_be 2 preference))
    (Field.name (labels_of c.args.mx.now.exchange) ∷ []) old then c.append_name.new.self
    (composes_or limit (Ok u) (with_octets old.state (octets_be 2 preference)) old then (λ a. inl a)
    (subst (λ o. Composes limit (g.B.AsOctets.asks ≡ true) (Ok u) (with_octets old.state o) old then)
    (c.to_be_bytes.ensures ∙ made_be_2 preference) c.in_default.ensures.composed))
    c.append_name.ensures.composed
