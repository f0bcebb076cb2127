-- This many labels are appended.
use Rattle.std.proofs.Common.{◌-◌, ◌≡◌, ◌≤◌, ◌++◌, take}
use Rattle.octseq_dns_compress.proofs.Words.{labels_wire, plain_labels}
use Rattle.octseq_dns_compress.proofs.encode.append_labels.Given as goal

abbrev pub invariant-labels : goal.invariant-labels
invariant-labels g l = record {
  within : l.index ≤ l.fn.count;
  content : g.B.AsOctets.content l.octets
      ≡ g.B.AsOctets.content l.fn.octets ++ labels_wire (take l.index (plain_labels l.name));
  borrows : g.B.AsOctets.borrows l.octets ≡ g.B.AsOctets.borrows l.fn.octets;
}

abbrev pub decreases-labels : goal.decreases-labels
decreases-labels g l = l.count - l.index
