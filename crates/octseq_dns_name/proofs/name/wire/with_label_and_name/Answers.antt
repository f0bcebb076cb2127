use Rattle.std.proofs.Common.{arith}
use Rattle.octseq_dns_name.specs.Read.{labels_of}
use Rattle.octseq_dns_name.proofs.Names.{wire_some}
use Rattle.octseq_dns_name.proofs.name.wire.with_label_and_name.Goals as goal

pub append_label-requires-clause-room : goal.append_label-requires-clause-room
append_label-requires-clause-room g c =
    let some = wire_some (labels_of c.args.name.now) in omega (arith, some)
