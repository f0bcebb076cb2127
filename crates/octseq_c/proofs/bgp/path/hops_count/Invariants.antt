-- The AS numbers that were counted, and those of the segments ahead, are all.
use Rattle.std.proofs.Common.{◌≡◌, ◌+◌, length}
use Rattle.octseq_bgp.specs.PathOf.{path_wide, segments_left}
use Rattle.octseq_c.specs.BgpPath.{path_room}
use Rattle.octseq_c.proofs.bgp.path.hops_count.Given as goal

abbrev pub invariant-segments : goal.invariant-segments
invariant-segments g l = record {
  all : l.count + path_room (path_wide l.fn.path, segments_left l.ahead)
      ≡ path_room (path_wide l.fn.path, segments_left l.fn.path);
}

abbrev pub decreases-segments : goal.decreases-segments
decreases-segments g l = length (segments_left l.ahead)
