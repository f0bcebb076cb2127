use Rattle.std.proofs.Common.{ap, ◌∙◌, take, arith}
use Rattle.octseq.proofs.Codes.{rest_whole}
use Rattle.octseq.specs.Window.{rest}
use Rattle.octseq_bgp.specs.Parts.{octets_of_bits}
use Rattle.octseq_bgp.specs.PrefixValue.{address_from, prefix_address}
use Rattle.octseq_mrt.proofs.Listing.{address_front}
use Rattle.octseq_mrt.proofs.builder.rib.prefix_octets.Goals as goal

pub returns-clause-octets : goal.returns-clause-octets
returns-clause-octets c =
    let bits = c.args.prefix.now.len in
    let o = c.args.prefix.now.address in
    let same = c.of.ensures ∙ ap octets_of_bits c.from.ensures in
    let few = c.requires in
    ap (take c.of.result) (c.prefix-cleared.ensures.address
    ∙ ap (λ w. prefix_address bits (rest w)) c.from_ref.ensures.window ∙ ap (prefix_address bits) (rest_whole o))
    ∙ address_front c.of.result 16 0 bits o (omega (arith, same, few))
    ∙ ap (λ n. address_from n 0 bits o) same
