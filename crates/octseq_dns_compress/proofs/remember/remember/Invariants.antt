-- The labels after those that are left are kept.
use Rattle.std.proofs.Common.{nat_lt, filter, ◌≡◌, ◌≤◌, ◌+◌, ℕ, List, length, drop, take}
use Rattle.octseq_dns_compress.proofs.Words.{TableMatches, IsSuffixMatch, Names, labels_wire, with_labels, plain_labels}
use Rattle.octseq_dns_compress.proofs.Words.{AreLabelsWritten}
use Rattle.octseq_dns_compress.proofs.KeptSoFar.{KeptSoFar, offset_after}
use Rattle.octseq_dns_compress.proofs.remember.remember.Given as goal

abbrev pub invariant-labels : goal.invariant-labels
invariant-labels g l = record {
  within : l.left ≤ l.fn.ending.written;
  end : l.end ≡ l.fn.start + length (labels_wire (take l.left (plain_labels l.name)));
  position : l.position ≤ length (g.T.Compressor.held l.table);
  more : l.older ≤ length (g.T.Compressor.held l.table);
  few : length (g.T.Compressor.held l.table) ≤ g.T.Compressor.most;
  turned : l.turns + l.left ≤ l.fn.turns + l.fn.ending.written;
  least : l.fn.turns + length (g.T.Compressor.held l.table) ≤ l.turns + length (g.T.Compressor.held l.fn.table);
  on : l.fn.turns ≤ l.turns;
  before : filter (λ target. nat_lt target.at l.fn.start) (g.T.Compressor.held l.table)
      ≡ filter (λ target. nat_lt target.at l.fn.start) (g.T.Compressor.held l.fn.table);
  kept : (octets : List ℕ) (names : Names) → TableMatches octets (g.T.Compressor.held l.fn.table) names
      → IsSuffixMatch octets (g.T.Compressor.held l.fn.table) names (plain_labels l.name) l.fn.ending
      → AreLabelsWritten octets names l.fn.start (plain_labels l.name) l.fn.ending.written
      → KeptSoFar octets (g.T.Compressor.held l.table)
      (with_labels g.T.Compressor.most l.fn.ending.pointers names (offset_after l.fn.start (plain_labels l.name) l.left)
      (drop l.left (plain_labels l.name))) (plain_labels l.name) l.fn.start l.end l.older l.left l.next l.position;
}

abbrev pub decreases-labels : goal.decreases-labels
decreases-labels g l = l.left
