-- The strings so far are appended, and a text is left.
use Rattle.std.proofs.Common.{◌≡◌, ◌++◌, ℕ, List, length}
use Rattle.octseq_dns_data.specs.Strings.{spelling}
use Rattle.octseq_dns.specs.TxtWritten.{strings_of_text}
use Rattle.octseq_dns.proofs.txt.append_text.Given as goal

abbrev pub invariant-loop-left : goal.invariant-loop-left
invariant-loop-left g l = record {
  ahead : g.B.AsOctets.content l.octets ++ spelling (strings_of_text l.left)
      ≡ g.B.AsOctets.content l.fn.octets ++ spelling (strings_of_text l.text);
  grown : (more : List ℕ) × (g.B.AsOctets.content l.octets ≡ g.B.AsOctets.content l.fn.octets ++ more);
  borrows : g.B.AsOctets.borrows l.octets ≡ g.B.AsOctets.borrows l.fn.octets;
}

abbrev pub decreases-loop-left : goal.decreases-loop-left
decreases-loop-left g l = length l.left
