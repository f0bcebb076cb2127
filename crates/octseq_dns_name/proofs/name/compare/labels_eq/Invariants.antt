-- The labels are equal if and only if those ahead are.
use Rattle.std.proofs.Common.{◌≡◌, ◌↔◌}
use Rattle.octseq_dns_name.specs.Order.{lower_labels}
use Rattle.octseq_dns_name.specs.Read.{labels_left}
use Rattle.octseq_dns_name.proofs.name.compare.labels_eq.Given as goal

abbrev pub invariant-loop-label : goal.invariant-loop-label
invariant-loop-label g l =
    (lower_labels (labels_left l.label-iterator) ≡ lower_labels (labels_left l.ahead)) ↔
    (lower_labels (labels_left l.fn.labels) ≡ lower_labels (labels_left l.fn.others))
