-- The octets so far and those of the labels ahead are all; the root is counted on both sides.
use Rattle.std.proofs.Common.{◌≡◌, ◌+◌}
use Rattle.octseq_dns_name.specs.Name.{wire_length}
use Rattle.octseq_dns_name.specs.Read.{labels_left}
use Rattle.octseq_dns_name.proofs.name.wire.wire_len.Given as goal

abbrev pub invariant-loop-label : goal.invariant-loop-label
invariant-loop-label g l = l.len + wire_length (labels_left l.label-iterator) ≡ 1 + wire_length
    (labels_left l.fn.labels)
