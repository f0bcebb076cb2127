use Rattle.std.specs.Bool.{one_answer}
use Rattle.octseq_dns_name.specs.Order.{name_eq}
use Rattle.octseq_dns_name.specs.OrderLaws.{name_decides}
use Rattle.octseq_dns_name.specs.Read.{labels_of}
use Rattle.octseq_dns_name.proofs.name.compare.ParsedNamePartialEq.eq.Goals as goal

pub returns : goal.returns
returns g c =
    let labels = labels_of c.args.self.now in
    let others = labels_of c.args.other.now in
    one_answer c.name_eq.result (name_eq labels others) c.name_eq.ensures (name_decides labels others)
