-- The rows so far, and those of the AS numbers that are left, are all rows. What follows them is unchanged.
use Rattle.std.proofs.Common.{◌≡◌, ◌+◌, ◌++◌, map, take, drop, length}
use Rattle.octseq_bgp.specs.PathOf.{asns_left}
use Rattle.octseq_c.specs.BgpPath.{row_of_asn}
use Rattle.octseq_c.proofs.bgp.path.fill_asns.Given as goal

abbrev pub invariant-loop-asn : goal.invariant-loop-asn
invariant-loop-asn g l = record {
  end : l.at + length (asns_left l.asn-iterator) ≡ l.fn.from + length (asns_left l.fn.asns);
  whole : take l.at l.out ++ map (row_of_asn l.kind l.count) (asns_left l.asn-iterator)
      ≡ take l.fn.from l.fn.out ++ map (row_of_asn l.kind l.count) (asns_left l.fn.asns);
  rest : drop l.at l.out ≡ drop l.at l.fn.out;
  long : length l.out ≡ length l.fn.out;
}
