-- The octets so far are read, and counted.
use Rattle.std.proofs.Common.{◌≡◌, ◌+◌, ◌≤◌, ℕ, List, length}
use Rattle.octseq_dns_scan.specs.Spelled.{is_special_in_string}
use Rattle.octseq_dns_scan.proofs.Spellings.{Reads}
use Rattle.octseq_dns_scan.proofs.string.octets_len.Given as goal

abbrev pub invariant-octets : goal.invariant-octets
invariant-octets l = record {
  done : List ℕ;
  reads : Reads (is_special_in_string l.quoted) done l.fn.text l.ahead;
  counted : length done ≡ l.len;
  room : l.len + length l.ahead ≤ length l.fn.text;
}

abbrev pub decreases-octets : goal.decreases-octets
decreases-octets l = length l.ahead
