-- The octets so far have no line feed.
use Rattle.std.proofs.Common.{◌≤◌, ◌-◌, take, length}
use Rattle.octseq_dns_compose.specs.TextLines.{IsLine}
use Rattle.octseq_dns_compose.proofs.lines.line_len.Given as goal

abbrev pub invariant-octets : goal.invariant-octets
invariant-octets l = (l.len ≤ length l.text) × IsLine (take l.len l.text)

abbrev pub decreases-octets : goal.decreases-octets
decreases-octets l = length l.text - l.len
