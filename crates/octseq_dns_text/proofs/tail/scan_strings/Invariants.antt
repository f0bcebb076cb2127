-- The words so far are read, and their octets are appended.
use Rattle.std.proofs.Common.{◌≡◌, length}
use Rattle.octseq_dns_scan.specs.Words.{ahead_of, offset_of}
use Rattle.octseq_dns_text.specs.Output.{Grows}
use Rattle.octseq_dns_text.specs.Reached.{Reached}
use Rattle.octseq_dns_text.specs.Tails.{AreStrings}
use Rattle.octseq_dns_text.proofs.tail.scan_strings.Given as goal

abbrev pub invariant-words : goal.invariant-words
invariant-words g l = record {
  reached : Reached AreStrings (ahead_of l.fn.words) (offset_of l.fn.words) g.B.AsOctets.limit
      (g.B.AsOctets.content l.fn.target) (ahead_of l.ahead)
      (offset_of l.ahead) l.full (g.B.AsOctets.content l.target);
  grows : Grows (g.B.AsOctets.content l.fn.target) (g.B.AsOctets.content l.target);
  borrows : g.B.AsOctets.borrows l.target ≡ g.B.AsOctets.borrows l.fn.target;
}

abbrev pub decreases-words : goal.decreases-words
decreases-words g l = length (ahead_of l.ahead)
