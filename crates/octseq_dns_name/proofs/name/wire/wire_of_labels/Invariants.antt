-- The labels so far are appended.
use Rattle.std.proofs.Common.{◌≡◌, ◌+◌, ◌≤◌, length, map, take}
use Rattle.octseq_dns_name.specs.Wire.{AreLabels}
use Rattle.octseq_dns_name.specs.NameFormat.{bodies}
use Rattle.octseq_dns_name.proofs.name.wire.wire_of_labels.Given as goal

abbrev pub invariant-loop-label : goal.invariant-loop-label
invariant-loop-label l = record {
  each : AreLabels (map (λ label. label.now) (take l.label-index l.labels));
  appended : l.octets.content ≡ bodies (map (λ label. label.now) (take l.label-index l.labels));
  room : length l.octets.content + 1 ≤ 255;
}
