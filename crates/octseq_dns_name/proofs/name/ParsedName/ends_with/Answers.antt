use Rattle.std.proofs.Common.{◌≡◌, ◌+◌, ◌-◌, length, drop, ap, sym, ◌∙◌, arith}
use Rattle.octseq_dns_name.specs.Order.{lower_labels}
use Rattle.octseq_dns_name.specs.Read.{labels_of}
use Rattle.octseq_dns_name.proofs.Fronts.{ends_as}
use Rattle.octseq_dns_name.proofs.name.ParsedName.ends_with.Goals as goal

pub returns : goal.returns
returns g c =
    let labels = labels_of c.args.self.now in
    let others = labels_of c.args.base.now in
    let m = c.label_count-count.result in
    let n = c.label_count-others.result in
    let first = c.label_count-count.ensures in
    let second = c.label_count-others.ensures in
    let enough = c.if-count-others.false in
    let size : length labels ≡ (m - n) + length others = omega (arith, first, second, enough) in
    let ends = ends_as labels others (m - n) size in
    let left = ap lower_labels (c.passed.ensures ∙ ap (drop (m - n)) c.labels.ensures.labels) in
    let right = ap lower_labels c.labels-2.ensures.labels in (
      λ reported. ends.0 (sym left ∙ c.labels_eq.ensures.0 reported ∙ right),
      λ is. c.labels_eq.ensures.1 (left ∙ ends.1 is ∙ sym right),
    )
