-- Segments of AS paths to be written, and their octets: RFC 4271, 4.3, and RFC 5065, 3.
use Rattle.std.specs.Prelude.{ℕ, ◌<◌, ◌≤◌, ◌^◌, Bool, List, ◌++◌, length, map}
use Rattle.std.specs.List.{AllByRecursion}
use Rattle.octseq.specs.Integer.{octets_be}
use Rattle.octseq.specs.Window.{rest}
use Rattle.octseq_format.specs.Row.{row_octets}
use Rattle.octseq_bgp.specs.Parts.{IsSegmentType, Segment}
use Rattle.octseq_bgp.specs.Path.{asn_size}
use Rattle.octseq_bgp.specs.ValueText.{numbers}

-- A segment: the number of its type, and its AS numbers.
abbrev pub WrittenSegment : Type 0
WrittenSegment = ℕ × List ℕ

-- AS numbers of four octets, or of two
abbrev pub asns_octets : Bool → List ℕ → List ℕ
asns_octets wide asns = row_octets (octets_be (asn_size wide)) asns

-- its type, its count and its AS numbers
abbrev pub segment_octets : Bool → WrittenSegment → List ℕ
segment_octets wide segment =
    octets_be 1 segment.0 ++ (octets_be 1 (length segment.1) ++ asns_octets wide segment.1)

-- It has a type, and 1 to 255 AS numbers, which fit their octets.
pub record FitsSegment (wide : Bool) (segment : WrittenSegment) : Type 0 where
  pub kind : IsSegmentType segment.0
  pub some : 1 ≤ length segment.1
  pub few : length segment.1 ≤ 255
  pub asns : AllByRecursion (λ asn. asn < 256 ^ asn_size wide) segment.1

-- its segments, one after another
abbrev pub path_octets : Bool → List WrittenSegment → List ℕ
path_octets wide path = row_octets (segment_octets wide) path

-- each fits
abbrev pub FitsPath : Bool → List WrittenSegment → Type 0
FitsPath wide path = AllByRecursion (FitsSegment wide) path

-- what a segment that was read says
abbrev pub says_segment : Bool → Segment → WrittenSegment
says_segment wide segment = (segment.0, numbers (asn_size wide) segment.1.0 (rest segment.1.1))

-- what a path that was read says
abbrev pub says_path : Bool × List Segment → List WrittenSegment
says_path path = map (says_segment path.0) path.1
