-- An iterator over labels yields those that are left, so what std says of `count`, `map` and others holds of them.
use Rattle.std.proofs.Common.{None, Some, ap, length}
use Rattle.std.proofs.lemmas.Iterator.{YieldsList}
use Rattle.std.proofs.lemmas.Iterator.Consumers.{YieldsList-from_shown}
use Rattle.octseq.specs.declared.AsOctets.{Ghosts}
use Rattle.octseq_dns_name.specs.NextLabel.{YieldsNextLabel}
use Rattle.octseq_dns_name.specs.Read.{label_octets, labels_left}
use Rattle.octseq_dns_name.specs.declared.name.labels.Label.{Label}
use Rattle.octseq_dns_name.specs.declared.name.labels.Labels.{Labels}

pub labels_yield : {R : Type 0} {g : Ghosts R} (labels : Labels R g)
    → YieldsList YieldsNextLabel label_octets labels (labels_left labels)
labels_yield {R} {g} = YieldsList-from_shown YieldsNextLabel label_octets labels_left
    (λ s t (ends : YieldsNextLabel {R = R} {g = g} s None t). ap length ends.0.0)
    (λ s (label : Label R g) t (step : YieldsNextLabel {R = R} {g = g} s (Some label) t). step.0)
