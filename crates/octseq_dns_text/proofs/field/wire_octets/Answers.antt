use Rattle.std.proofs.Common.{length, ap, arith}
use Rattle.octseq_dns_name.proofs.Wires.{wire_has}
use Rattle.octseq_dns_name.specs.Owned.{owned_labels}
use Rattle.octseq_dns_text.proofs.field.wire_octets.Goals as goal

pub held-requires : goal.held-requires
held-requires c =
    let lengths = ap length c.as_slice.ensures in
    omega (arith, lengths, wire_has (owned_labels c.args.name.now), c.len-len.ensures.len, c.len-len.ensures.most)
