-- What contracts see of the segments of an AS path.
use Rattle.std.specs.Prelude.{ℕ, Bool, List}
use Rattle.octseq.specs.declared.AsOctets.{Ghosts}
use Rattle.octseq.specs.Parser.{window}
use Rattle.octseq_bgp.specs.Parts as said
use Rattle.octseq_bgp.specs.Path.{segment_number}
use Rattle.octseq_bgp.specs.declared.attribute.path.AsPath.{AsPath}
use Rattle.octseq_bgp.specs.declared.attribute.path.Asns.{Asns}
use Rattle.octseq_bgp.specs.declared.attribute.path.Segment.{Segment}

-- a segment
abbrev pub segment_of : {R : Type 0} {g : Ghosts R} → Segment R g → said.Segment
segment_of s = (segment_number s.kind, (s.count, window s.octets))

-- the segments that are left
abbrev pub segments_left : {R : Type 0} {g : Ghosts R} → AsPath R g → List said.Segment
segments_left path = path.ahead.0

-- whether its AS numbers have four octets
abbrev pub path_wide : {R : Type 0} {g : Ghosts R} → AsPath R g → Bool
path_wide path = path.wide

-- a path: whether it is wide, and its segments
abbrev pub path_of : {R : Type 0} {g : Ghosts R} → AsPath R g → Bool × List said.Segment
path_of path = (path_wide path, segments_left path)

-- the AS numbers that are left
abbrev pub asns_left : {R : Type 0} {g : Ghosts R} → Asns R g → List ℕ
asns_left asns = asns.ahead.0
