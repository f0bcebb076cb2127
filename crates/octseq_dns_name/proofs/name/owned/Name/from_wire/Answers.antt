use Rattle.std.proofs.Common.{ap}
use Rattle.octseq.specs.Window.{whole}
use Rattle.octseq_dns_name.specs.OneName.{Named, named_once}
use Rattle.octseq_dns_name.proofs.Wires.{wire_named}
use Rattle.octseq_dns_name.proofs.name.owned.Name.from_wire.Goals as goal

pub invariant_of-result : goal.invariant_of-result
invariant_of-result g c =
    let octets = g.B.AsOctets.content c.args.octets in
    let made = c.requires.1 in
    record { named = (c.requires.0, wire_named octets c.requires.0 made.0 made.1 made.2); plain = made.0 }

pub returns : goal.returns
returns g c = λ labels is.
    let octets = g.B.AsOctets.content c.args.octets in
    let here : Named (whole octets) = (labels, wire_named octets labels is.0 is.1 is.2) in
    ap (λ named. named.0) (named_once (whole octets) c.result-1.given.0 here)
