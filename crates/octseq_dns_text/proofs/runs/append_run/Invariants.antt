-- The run is read so far, and its octets are appended.
use Rattle.std.proofs.Common.{◌≡◌, ℕ, List, take}
use Rattle.octseq_dns_scan.specs.TextReader.{ReadsSoFar}
use Rattle.octseq_dns_text.specs.Output.{Adds, Grows}
use Rattle.octseq_dns_text.proofs.runs.append_run.Given as goal

abbrev pub invariant-loop-octet : goal.invariant-loop-octet
invariant-loop-octet g l = record {
  more : List ℕ;
  reads : (start : g.row.R.Denot) → ReadsSoFar (g.R.RunReader.has_read start) l.fn.reader l.after
      (take l.octet-index l.run) more;
  adds : Adds g.B.AsOctets.limit l.fn.full (g.B.AsOctets.content l.fn.target) l.past (g.B.AsOctets.content l.target)
      more;
  grows : Grows (g.B.AsOctets.content l.fn.target) (g.B.AsOctets.content l.target);
  borrows : g.B.AsOctets.borrows l.target ≡ g.B.AsOctets.borrows l.fn.target;
}
