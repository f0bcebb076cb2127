use Rattle.std.proofs.Common.{ap, ◌∙◌}
use Rattle.octseq_dns_name.specs.Order.{name_cmp}
use Rattle.octseq_dns_name.specs.Read.{labels_of}
use Rattle.octseq_c.proofs.OneTexts.{one_at}
use Rattle.octseq_c.proofs.Orders.{stored}
use Rattle.octseq_c.proofs.Puts.{reported}
use Rattle.octseq_c.proofs.names.octseq_dns_name_compare.Goals as goal

pub returns-in-Ok-Ok-clause-ok : goal.returns-in-Ok-Ok-clause-ok
returns-in-Ok-Ok-clause-ok c = λ ok labels others one other.
    let first = one_at c.in-Ok-Ok.ensures.name one in
    let second = one_at c.in-Ok-Ok.ensures'.name other in
    let same = c.name_cmp.ensures ∙ ap (λ l. name_cmp l (labels_of c.in-Ok-Ok.other)) first
    ∙ ap (name_cmp labels) second in
    rw (← same) (stored c.name_cmp.result c.number_of.result c.number_of.ensures)

pub returns-in_default-2-clause-malformed : goal.returns-in_default-2-clause-malformed
returns-in_default-2-clause-malformed c =
    reported 2 (λ labels others one other. c.in_default.ensures.malformed labels one)
