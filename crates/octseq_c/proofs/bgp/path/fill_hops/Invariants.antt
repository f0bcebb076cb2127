-- The rows that were written, and those of the segments ahead, are all rows. What follows them is unchanged.
use Rattle.std.proofs.Common.{◌≡◌, ◌++◌, List, drop, length}
use Rattle.octseq_bgp.specs.PathOf.{path_of, path_wide, segments_left}
use Rattle.octseq_c.specs.BgpPath.{hops_of}
use Rattle.octseq_c.specs.declared.bgp.path.BgpHop.{BgpHop}
use Rattle.octseq_c.proofs.bgp.path.fill_hops.Given as goal

abbrev pub invariant-segments : goal.invariant-segments
invariant-segments g l = record {
  wide : path_wide l.ahead ≡ path_wide l.fn.path;
  done : List BgpHop;
  whole : done ++ hops_of (path_wide l.fn.path, segments_left l.ahead) ≡ hops_of (path_of l.fn.path);
  offset : l.at ≡ length done;
  written : l.out ≡ done ++ drop l.at l.fn.out;
  long : length l.out ≡ length l.fn.out;
}

abbrev pub decreases-segments : goal.decreases-segments
decreases-segments g l = length (segments_left l.ahead)
