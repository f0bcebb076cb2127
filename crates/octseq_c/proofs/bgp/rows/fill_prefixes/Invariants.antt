-- The rows so far, and those of the prefixes that are left, are all rows. What follows them is unchanged.
use Rattle.std.proofs.Common.{◌≡◌, ◌+◌, ◌++◌, map, take, drop, length}
use Rattle.octseq_bgp.specs.Lists.{prefixes_left}
use Rattle.octseq_c.specs.BgpRows.{row_of_prefix}
use Rattle.octseq_c.proofs.bgp.rows.fill_prefixes.Given as goal

abbrev pub invariant-loop-nlri : goal.invariant-loop-nlri
invariant-loop-nlri g l = record {
  end : l.at + length (prefixes_left l.nlri-iterator) ≡ l.fn.from + length (prefixes_left l.fn.prefixes);
  whole : take l.at l.out ++ map (row_of_prefix l.kind l.safi) (prefixes_left l.nlri-iterator)
      ≡ take l.fn.from l.fn.out ++ map (row_of_prefix l.kind l.safi) (prefixes_left l.fn.prefixes);
  rest : drop l.at l.out ≡ drop l.at l.fn.out;
  long : length l.out ≡ length l.fn.out;
}
