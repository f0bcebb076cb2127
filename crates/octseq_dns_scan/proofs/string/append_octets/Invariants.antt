-- The octets so far are read and appended.
use Rattle.std.proofs.Common.{◌≡◌, ◌++◌, ℕ, List, length}
use Rattle.octseq_dns_scan.specs.Spelled.{is_special_in_string}
use Rattle.octseq_dns_scan.proofs.Spellings.{Reads}
use Rattle.octseq_dns_scan.proofs.string.append_octets.Given as goal

abbrev pub invariant-octets : goal.invariant-octets
invariant-octets g l = record {
  done : List ℕ;
  reads : Reads (is_special_in_string l.quoted) done l.fn.text l.ahead;
  appended : g.B.AsOctets.content l.target ≡ g.B.AsOctets.content l.fn.target ++ done;
  borrows : g.B.AsOctets.borrows l.target ≡ g.B.AsOctets.borrows l.fn.target;
}

abbrev pub decreases-octets : goal.decreases-octets
decreases-octets g l = length l.ahead
