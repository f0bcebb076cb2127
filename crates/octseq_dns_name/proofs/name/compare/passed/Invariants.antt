-- The counter says how many labels were passed.
use Rattle.std.proofs.Common.{◌≡◌, drop}
use Rattle.octseq_dns_name.specs.Read.{labels_left}
use Rattle.octseq_dns_name.proofs.name.compare.passed.Given as goal

abbrev pub invariant-passed : goal.invariant-passed
invariant-passed g l = labels_left l.ahead ≡ drop l._at (labels_left l.fn.labels)
