use Rattle.std.proofs.Common.{length, ap, ◌∙◌, arith}
use Rattle.octseq.proofs.Written.{length_be}
use Rattle.octseq_bgp.specs.Lists.{nlri_of}
use Rattle.octseq_bgp.specs.Written.{path_id_octets}
use Rattle.octseq_bgp.proofs.Rewriting.{prefix_long}
use Rattle.octseq_bgp.proofs.message.rewriting.prefixes.prefix_len.Goals as goal

pub returns-in-Some : goal.returns-in-Some
returns-in-Some g c =
    let long = prefix_long (nlri_of c.args.nlri.now) in
    let id = ap (λ id. length (path_id_octets id)) c.in-Some.is ∙ length_be 4 c.in-Some.field-0.0 in
    let octets = c.octets_of_bits-len.ensures.octets in
    omega (arith, long, id, octets)

pub returns-in-None : goal.returns-in-None
returns-in-None g c =
    let long = prefix_long (nlri_of c.args.nlri.now) in
    let id = ap (λ id. length (path_id_octets id)) c.in-None.is in
    let octets = c.octets_of_bits-len.ensures.octets in
    omega (arith, long, id, octets)
