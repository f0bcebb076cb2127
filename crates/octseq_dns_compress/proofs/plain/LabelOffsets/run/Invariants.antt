-- The octets so far are those of the labels from the first one up to the index.
use Rattle.std.proofs.Common.{◌≡◌, ◌-◌, ◌<◌, ◌≤◌, ◌++◌, length, take, drop}
use Rattle.octseq_dns_compress.proofs.Words.{labels_wire, plain_labels}
use Rattle.octseq_dns_compress.proofs.plain.LabelOffsets.run.Given as goal

abbrev pub invariant-labels : goal.invariant-labels
invariant-labels l = record {
  some : l.from < l.index;
  within : l.index ≤ l.to;
  ordered : l.start ≤ l.end;
  inside : l.end ≤ length l.self.octets.now;
  run : labels_wire (take l.index (plain_labels l.self))
      ≡ labels_wire (take l.from (plain_labels l.self)) ++ take (l.end - l.start) (drop l.start l.self.octets.now);
}

abbrev pub decreases-labels : goal.decreases-labels
decreases-labels l = l.to - l.index
