-- The labels so far are appended.
use Rattle.std.proofs.Common.{◌≡◌, ℕ, List, ◌++◌}
use Rattle.octseq_dns_name.specs.Read.{labels_left}
use Rattle.octseq_dns_name.specs.Wire.{AreLabels}
use Rattle.octseq_dns_name.specs.NameFormat.{bodies}
use Rattle.octseq_dns_name.proofs.name.wire.append_labels.Given as goal

abbrev pub invariant-loop-label : goal.invariant-loop-label
invariant-loop-label g l = record {
  done : List (List ℕ);
  labels_are : labels_left l.fn.labels ≡ done ++ labels_left l.label-iterator;
  each : AreLabels done;
  appended : g.B.AsOctets.content l.octets ≡ g.B.AsOctets.content l.fn.octets ++ bodies done;
}
