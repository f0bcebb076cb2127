use Rattle.octseq_dns_name.specs.Read.{labels_left, label_octets}
use Rattle.octseq_dns_name.proofs.Comparisons.{passes}
use Rattle.octseq_dns_name.proofs.name.compare.passed.Goals as goal

pub passed-preserved : goal.passed-preserved
passed-preserved g c =
    passes label_octets (labels_left c.passed.ahead) (labels_left c.next.new.self)
    (labels_left c.args.labels) c.passed._at c.next.result c.next.ensures.steps.0 c.passed.invariant
