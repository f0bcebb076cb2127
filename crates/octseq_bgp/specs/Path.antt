-- The AS numbers and the segments of AS paths: RFC 4271, 4.3, RFC 5065, 3, and RFC 6793 for the number of octets of an
-- AS number.
use Rattle.std.specs.Prelude.{Bool, ℕ, if◌then◌else◌}
use Rattle.std.specs.Coded.{coded_ℕ}
use Rattle.octseq.specs.Window.{Window}
use Rattle.octseq_format.specs.Row.{Holds, held_once}
use Rattle.octseq_bgp.specs.Parts.{IsNumber}
use Rattle.octseq_bgp.specs.OneParts.{one_number}
use Rattle.octseq_bgp.specs.declared.attribute.path.SegmentType.{SegmentType}
use Rattle.octseq_bgp.specs.declared.attribute.path.SegmentType.TheVariants as kind

-- the number of octets of an AS number
abbrev pub asn_size : Bool → ℕ
asn_size wide = if wide then 4 else 2

-- the number of a type of segments
abbrev pub segment_number : SegmentType → ℕ
segment_number kind.Set = 1
segment_number kind.Sequence = 2
segment_number kind.ConfedSequence = 3
segment_number kind.ConfedSet = 4

-- `count` AS numbers are ahead
abbrev pub AsnsAhead : Bool → Window → ℕ → Type 0
AsnsAhead wide w left = Holds (IsNumber (asn_size wide)) w left

-- ---- lemmas: proved below this line, so what the words mean is read above it

pub asns_once : (wide : Bool) (w : Window) (left : ℕ) → IsProp (AsnsAhead wide w left)
asns_once wide w left = held_once coded_ℕ (IsNumber (asn_size wide)) (one_number (asn_size wide)) w left
