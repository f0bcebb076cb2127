-- The run is read so far, and its octets are appended.
use Rattle.std.proofs.Common.{◌≡◌, ℕ, List, ◌++◌, take}
use Rattle.octseq_dns_scan.specs.TextReader.{ReadsSoFar}
use Rattle.octseq_dns_scan.proofs.digits.feed.Given as goal

abbrev pub invariant-loop-octet : goal.invariant-loop-octet
invariant-loop-octet g l = (more : List ℕ)
    × (g.B.AsOctets.content l.target ≡ g.B.AsOctets.content l.fn.target ++ more)
    × ReadsSoFar g.R.DigitReader.has_read l.fn.reader l.reader (take l.octet-index l.run) more
