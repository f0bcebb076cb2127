use Rattle.std.proofs.Common.{ap, length, arith}
use Rattle.octseq_dns_name.proofs.Wires.{wire_has}
use Rattle.octseq_dns_name.specs.Owned.{owned_labels}
use Rattle.octseq_c.proofs.write.wire_of.Goals as goal

pub returns-clause-short : goal.returns-clause-short
returns-clause-short c =
    let long = c.len-len.ensures in
    omega (arith, wire_has (owned_labels c.args.name.now), ap length c.as_slice.ensures, long.len, long.most)
