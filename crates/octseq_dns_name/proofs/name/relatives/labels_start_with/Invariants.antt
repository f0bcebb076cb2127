-- The labels begin with the others if and only if those ahead do.
use Rattle.std.proofs.Common.{◌↔◌}
use Rattle.octseq_dns_name.specs.Read.{labels_left}
use Rattle.octseq_dns_name.specs.Relatives.{NameStartsWith}
use Rattle.octseq_dns_name.proofs.name.relatives.labels_start_with.Given as goal

abbrev pub invariant-loop-other : goal.invariant-loop-other
invariant-loop-other g l = NameStartsWith (labels_left l.ahead) (labels_left l.other-iterator) ↔
    NameStartsWith (labels_left l.fn.labels) (labels_left l.fn.others)
