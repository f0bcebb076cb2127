use Rattle.std.proofs.Common.{◌≡◌, ◌-◌, length, drop, ap, sym, ◌∙◌, rules}
use Rattle.std.specs.Ordering.{nat_cmp, ordering_then}
use Rattle.octseq_dns_name.specs.Order.{name_cmp}
use Rattle.octseq_dns_name.specs.Read.{labels_of, labels_left}
use Rattle.octseq_dns_name.proofs.Comparisons.{name_cmp_lasts}
use Rattle.octseq_dns_name.proofs.name.ParsedName.name_cmp.Goals as goal

pub returns : goal.returns
returns g c =
    let labels = labels_of c.args.self.now in
    let others = labels_of c.args.other.now in
    let m = c.saturating_sub.result in
    let n = c.saturating_sub-2.result in
    let m_is : m ≡ length labels - length others = search rules in
    let n_is : n ≡ length others - length labels = search rules in
    let first = c.passed-last.ensures ∙ ap (drop m) c.labels.ensures.labels in
    let second = c.passed-other_last.ensures ∙ ap (drop n) c.labels-2.ensures.labels in
    let lasts = c.labels_cmp.ensures ∙ ap (λ l. name_cmp l (labels_left c.passed-other_last.result)) first
    ∙ ap (name_cmp (drop m labels)) second in
    let counts = c.cmp.ensures ∙ ap (λ k. nat_cmp k c.label_count-others.result) c.label_count-count.ensures
    ∙ ap (nat_cmp (length labels)) c.label_count-others.ensures in
    c.then.ensures ∙ ap (λ o. ordering_then o c.cmp.result) lasts
    ∙ ap (ordering_then (name_cmp (drop m labels) (drop n others))) counts
    ∙ sym (name_cmp_lasts labels others m n m_is n_is)
