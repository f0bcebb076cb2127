use Rattle.std.proofs.Common.{◌≡◌, ◌≤◌, ◌+◌, length, arith, rules}
use Rattle.octseq_dns_name.specs.Read.{labels_of}
use Rattle.octseq_dns_name.specs.Wire.{wire}
use Rattle.octseq_dns_name.proofs.Wires.{wire_has}
use Rattle.octseq_c.proofs.names.wire_of.Goals as goal

pub put-requires-clause-fit : goal.put-requires-clause-fit
put-requires-clause-fit c =
    let labels = labels_of c.args.name.now in
    let same = wire_has labels in
    let long = c.len-len.ensures in
    record {
      fits = record { each = c.a_name_has_labels.ensures.labels; short = omega (arith, long.len, long.most) };
      few = omega (arith, same, long.len, long.most);
    }

pub put-requires-clause-within : goal.put-requires-clause-within
put-requires-clause-within c =
    let same = wire_has (labels_of c.args.name.now) in
    let long = c.len-len.ensures in
    let none : length c.new-octets.result.content ≡ 0 = search rules in
    let fits : length c.new-octets.result.content + length (wire (labels_of c.args.name.now)) ≤ 255 =
    omega (arith, same, long.len, long.most, none) in
    fits
