-- The labels so far are read, up to a place that is past the end if the last one isn't whole: then there is no name.
use Rattle.std.proofs.Common.{◌-◌, ◌+◌, ◌<◌, ◌≤◌}
use Rattle.octseq_dns_name.specs.Pass.{window_at, NoName}
use Rattle.octseq_dns_name.proofs.Passes.{ReadsTo}
use Rattle.octseq_dns_name.proofs.name.pass.skip_labels.Given as goal

abbrev pub invariant-labels : goal.invariant-labels
invariant-labels l = record {
  inside : l.at ≤ l.end → ReadsTo l.octets l.place l.end l.at l.fn.turns l.turns;
  outside : l.end < l.at → NoName (window_at l.octets l.place l.end);
  ordered : l.place ≤ l.at;
  few : l.turns + l.turns + l.place ≤ l.fn.turns + l.fn.turns + l.at;
  most : l.turns ≤ l.fn.turns + 128;
  least : l.fn.turns ≤ l.turns;
}

abbrev pub decreases-labels : goal.decreases-labels
decreases-labels l = l.limit - l.at
