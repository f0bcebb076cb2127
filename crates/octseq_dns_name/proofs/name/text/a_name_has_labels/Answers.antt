use Rattle.std.proofs.Common.{rules}
use Rattle.octseq.specs.Parser.{window}
use Rattle.octseq_dns_name.proofs.LabelLaws.{named_labels, named_octets}
use Rattle.octseq_dns_name.proofs.name.text.a_name_has_labels.Goals as goal

pub returns-clause-labels : goal.returns-clause-labels
returns-clause-labels g c =
    let w = window c.args.name.now.parser in
    named_labels w c.args.name.now.named (search rules)

pub returns-clause-octets : goal.returns-clause-octets
returns-clause-octets g c =
    let w = window c.args.name.now.parser in
    named_octets w c.args.name.now.named (search rules)
