-- The labels so far are read and appended, and what is ahead follows them.
use Rattle.std.proofs.Common.{◌≡◌, ◌+◌, ◌≤◌, ℕ, List, length}
use Rattle.octseq_dns_name.specs.Refused.{ReadsLabels}
use Rattle.octseq_dns_name.specs.NameFormat.{bodies}
use Rattle.octseq_dns_name.proofs.name.spelling.read_labels.Given as goal

abbrev pub invariant-labels : goal.invariant-labels
invariant-labels l = record {
  done : List (List ℕ);
  reads : ReadsLabels l.fn.text done l.ahead;
  appended : l.octets.content ≡ bodies done;
  room : length l.octets.content + 1 ≤ 255;
}

abbrev pub decreases-labels : goal.decreases-labels
decreases-labels l = length l.ahead
