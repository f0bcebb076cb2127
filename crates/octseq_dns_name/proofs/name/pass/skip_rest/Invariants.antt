-- The rest is read up to a place that is past the end if the last label isn't whole: then there is no rest.
use Rattle.std.proofs.Common.{◌-◌, ◌+◌, ◌<◌, ◌≤◌}
use Rattle.octseq_dns_name.specs.Pass.{window_at, NoRest}
use Rattle.octseq_dns_name.proofs.Passes.{RestsTo}
use Rattle.octseq_dns_name.proofs.name.pass.skip_rest.Given as goal

abbrev pub invariant-pieces : goal.invariant-pieces
invariant-pieces l = record {
  inside : l.at ≤ l.end
      → RestsTo l.octets l.to l.end l.start l.at l.before l.len l.pointers l.fn.turns l.turns;
  outside : l.end < l.at → NoRest (window_at l.octets l.to l.end) l.before;
  ordered : l.start ≤ l.end;
  more : l.before ≤ l.len;
  short : l.len ≤ 255;
  some : 1 ≤ l.pointers;
  few : l.pointers ≤ 127;
  turns : l.turns + l.turns + l.before + 2 ≤ l.fn.turns + l.fn.turns + l.len + l.pointers + l.pointers;
  least : l.fn.turns ≤ l.turns;
}

abbrev pub decreases-pieces : goal.decreases-pieces
decreases-pieces l = (256 - l.len) + (128 - l.pointers)
