use Rattle.std.proofs.Common.{arith}
use Rattle.octseq_bgp.proofs.Composing.{least_most}
use Rattle.octseq_bgp.proofs.UpdateParts.{appended}
use Rattle.octseq_bgp.proofs.message.update_builder.octets.UpdateOctets.append.Goals as goal

pub invariant_of-self : goal.invariant_of-self
invariant_of-self g c =
    let most = least_most c.args.most g.B.AsOctets.limit in
    (appended c.write.new.octets (g.T.Tail.octets c.args.tail.now) c.write.result c.self.invariant
    c.write.ensures.extends (omega (arith, most, c.requires.most))).0

pub returns-clause-puts : goal.returns-clause-puts
returns-clause-puts g c =
    let most = least_most c.args.most g.B.AsOctets.limit in
    rw (← c.self.view_is)
    (appended c.write.new.octets (g.T.Tail.octets c.args.tail.now) c.write.result c.self.invariant
    c.write.ensures.extends (omega (arith, most, c.requires.most))).1
