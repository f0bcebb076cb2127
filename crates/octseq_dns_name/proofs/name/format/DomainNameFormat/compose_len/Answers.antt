use Rattle.std.proofs.Common.{◌∙◌, sym, arith, rules}
use Rattle.octseq.specs.Parser.{window}
use Rattle.octseq_dns_name.specs.Read.{labels_of}
use Rattle.octseq_dns_name.proofs.LabelLaws.{named_labels}
use Rattle.octseq_dns_name.proofs.Wires.{wire_has}
use Rattle.octseq_dns_name.proofs.name.format.DomainNameFormat.compose_len.Goals as goal

pub returns-clause-some : goal.returns-clause-some
returns-clause-some g c = c.len.ensures.len ∙ sym (wire_has (labels_of c.args.value.now))

pub returns-clause-fit : goal.returns-clause-fit
returns-clause-fit g c = λ _.
    let name = c.args.value.now in
    let len = c.len.ensures.len in
    let most = c.len.ensures.most in
    record { each = named_labels (window name.parser) name.named (search rules); short = omega (arith, len, most) }
