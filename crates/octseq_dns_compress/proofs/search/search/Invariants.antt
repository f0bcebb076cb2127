-- The labels after those that are left are there.
use Rattle.std.proofs.Common.{◌≡◌, ◌≤◌, ◌+◌, ◌*◌, length, drop, take}
use Rattle.octseq_dns_compress.proofs.Words.{TableMatches, IsSuffixAt, Names, labels_wire, plain_labels}
use Rattle.octseq_dns_compress.proofs.search.search.Given as goal

abbrev pub invariant-labels : goal.invariant-labels
invariant-labels l = record {
  within : l.ending.written ≤ length (plain_labels l.name);
  len : l.ending.len ≡ length (labels_wire (take l.ending.written (plain_labels l.name)));
  short : l.ending.len ≤ 254;
  position : l.ending.position ≤ length l.targets;
  near : l.ending.next ≤ 16383;
  few : l.ending.pointers ≤ 127;
  turned : l.turns + 16 * l.ending.written ≤ l.fn.turns + 16 * length (plain_labels l.name);
  least : l.fn.turns + length (plain_labels l.name) ≤ l.turns + l.ending.written;
  ends : (names : Names) → TableMatches l.octets l.targets names
      → IsSuffixAt names (drop l.ending.written (plain_labels l.name)) l.ending.next l.ending.pointers;
}

abbrev pub decreases-labels : goal.decreases-labels
decreases-labels l = l.ending.written
