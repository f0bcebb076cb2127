-- The octets so far are read, and what is ahead follows them.
use Rattle.std.proofs.Common.{◌≤◌, length}
use Rattle.octseq_dns_name.specs.Refused.{ReadsLabelPart}
use Rattle.octseq_dns_name.proofs.name.spelling.next_part.Given as goal

abbrev pub invariant-octets : goal.invariant-octets
invariant-octets l = record {
  reads : ReadsLabelPart l.fn.text l.label.content l.ahead;
  short : length l.label.content ≤ 63;
}

abbrev pub decreases-octets : goal.decreases-octets
decreases-octets l = length l.ahead
