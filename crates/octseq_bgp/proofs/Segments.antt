-- The octets of segments are few.
use Rattle.std.proofs.Common.{◌≡◌, ◌+◌, ◌^◌, ◌<◌, Bool, true, false, ◌++◌, length, length-append, arith}
use Rattle.octseq.specs.Integer.{octets_be}
use Rattle.octseq.proofs.Written.{length_be}
use Rattle.octseq_bgp.specs.PartRow.{FitRow}
use Rattle.octseq_bgp.specs.Path.{asn_size}
use Rattle.octseq_bgp.specs.WrittenPath.{WrittenSegment, asns_octets, segment_octets, FitsSegment}
use Rattle.octseq_bgp.proofs.PathsBack.{row_long}

-- a segment has two octets more than its AS numbers
pub segment_long : (wide : Bool) (segment : WrittenSegment)
    → length (segment_octets wide segment) ≡ 2 + length (asns_octets wide segment.1)
segment_long wide segment =
    let kind = octets_be 1 segment.0 in
    let count = octets_be 1 (length segment.1) in
    let asns = asns_octets wide segment.1 in
    let outer = length-append kind (count ++ asns) in
    let inner = length-append count asns in
    let one = length_be 1 segment.0 in
    let other = length_be 1 (length segment.1) in
    omega (arith, outer, inner, one, other)

-- its AS numbers fit
pub asns_fit : (wide : Bool) (segment : WrittenSegment) → FitsSegment wide segment
    → FitRow (octets_be (asn_size wide)) (λ n. n < 256 ^ asn_size wide) segment.1
asns_fit true segment fits =
    let long = row_long 4 segment.1 in
    let few = fits.few in
    record { each = fits.asns; short = omega (arith, long, few) }
asns_fit false segment fits =
    let long = row_long 2 segment.1 in
    let few = fits.few in
    record { each = fits.asns; short = omega (arith, long, few) }
