use Rattle.std.proofs.Common.{ap, ◌∙◌, arith, take}
use Rattle.octseq_bgp.proofs.Octets.{address_first, four_first}
use Rattle.octseq_bgp.proofs.message.update_builder.prefix_octets.cleared_address.Goals as goal

pub returns-then-prefix-gt32 : goal.returns-then-prefix-gt32
returns-then-prefix-gt32 c =
    ap (take c.args.len) c.address_of.ensures
    ∙ address_first c.args.len 16 0 c.args.prefix.now.len c.args.prefix.now.address c.requires.most

pub returns : goal.returns
returns c =
    let few = c.if-prefix-gt32.false in
    let long = c.requires.few in
    four_first c.args.len c.args.prefix.now.len c.four_at.result c.args.prefix.now.address c.four_at.ensures
    (omega (arith, few, long))
