use Rattle.std.proofs.Common.{inl, ap, ◌∙◌, length, arith}
use Rattle.std.proofs.lemmas.Iterator.Consumers.{count_from_yields_List}
use Rattle.octseq_dns_name.specs.NextLabel.{YieldsNextLabel}
use Rattle.octseq_dns_name.proofs.LabelItems.{labels_yield}
use Rattle.octseq_dns_name.proofs.Names.{label_count}
use Rattle.octseq_dns_name.proofs.name.ParsedName.label_count.Goals as goal

pub count-requires-clause-fits : goal.count-requires-clause-fits
count-requires-clause-fits g c =
    let few = label_count c.labels.result.ahead.0 in
    let short = c.labels.result.short in
    inl (omega (arith, few, short))

pub returns : goal.returns
returns g c = count_from_yields_List {steps = YieldsNextLabel} c.labels.result c.count.result c.count.ensures.ran
    (labels_yield c.labels.result)
    ∙ ap length c.labels.ensures.labels
