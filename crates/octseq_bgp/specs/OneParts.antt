-- At most one part is at an offset, with one end, and it takes at least one octet. So parts up to the end of a window
-- are a fact.
use Rattle.std.specs.Prelude.{ℕ, ◌*◌, ◌≤◌}
use Rattle.std.proofs.Common.{sym, subst}
use Rattle.std.specs.Coded.{Coded, coded×, coded_ℕ}
use Rattle.octseq.specs.Integer.{be}
use Rattle.octseq.specs.Window.{Window}
use Rattle.octseq_format.specs.Counted.{one_counted}
use Rattle.octseq_format.specs.Family.{one_sized, one_when}
use Rattle.octseq_format.specs.Fixed.{one_fixed}
use Rattle.octseq_format.specs.Laws.{Relation, IsOne}
use Rattle.octseq_format.specs.Pair.{◌one_then◌, same_pair}
use Rattle.octseq_format.specs.Rest.{one_rest, window_code}
use Rattle.octseq_format.specs.Scaled.{Scales}
use Rattle.octseq_format.specs.Tagged.{one_by_switch}
use Rattle.octseq_format.specs.Where.{one_where}
use Rattle.octseq_bgp.specs.Parts.{IsNumber, IsCounted, IsNext, ◌deciding◌, IsPrefix, IsPathPrefix, IsAttribute, IsTlv}
use Rattle.octseq_bgp.specs.Parts.{IsSegment, IsSegmentType, octets_of_bits, is_extended}

-- ---- a number of them is a fact
abbrev pub prefix_code : Coded (ℕ × Window)
prefix_code = coded× coded_ℕ window_code

abbrev pub part_code : Coded (ℕ × (ℕ × Window))
part_code = coded× coded_ℕ prefix_code

-- ---- lemmas: proved below this line, so what the words mean is read above it

-- ---- at most one
pub one_number : (k : ℕ) → IsOne (IsNumber k)
one_number k = one_fixed k be

pub one_octets : (k : ℕ) → IsOne (IsCounted k)
one_octets k = one_counted one_rest

pub one_next : (k : ℕ) → IsOne (IsNext k)
one_next k = one_sized one_rest k

pub one_deciding : {A B : Type 0} {First : Relation A} {Second : A → Relation B} → IsOne First
    → ((a : A) → IsOne (Second a)) → IsOne (First deciding Second)
one_deciding {B = B} {Second = Second} first second = record {
  same = λ w a b u v is other.
      let here = first.same w a.0 b.0 is.0 other.0 is.1 other.1 in
      let moved = subst (λ x. Second b.0 x b.1 v) (sym here.1) other.2 in
      let there = (second a.0).same is.0 a.1 b.1 u v is.2 (subst (λ x. Second x is.0 b.1 v) (sym here.0) moved) in
      (same_pair here.0 there.0, there.1);
}

pub one_prefix : (most : ℕ) → IsOne (IsPrefix most)
one_prefix most = one_deciding (one_number 1)
    (one_when (λ bits. bits ≤ most) (λ bits. one_next (octets_of_bits bits)))

pub one_path_prefix : (most : ℕ) → IsOne (IsPathPrefix most)
one_path_prefix most = one_number 4 one_then one_prefix most

pub one_attribute : IsOne IsAttribute
one_attribute = one_deciding (one_number 1)
    (λ flags. one_number 1 one_then one_by_switch (is_extended flags) (one_octets 2) (one_octets 1))

pub one_tlv : (k : ℕ) → IsOne (IsTlv k)
one_tlv k = one_number 1 one_then one_octets k

pub one_segment : (k : ℕ) → IsOne (IsSegment k)
one_segment k = one_where (IsNumber 1) (λ kind. kind) IsSegmentType (one_number 1)
    one_then one_deciding (one_number 1)
    (one_when (λ count. 1 ≤ count) (one_when (Scales k) (λ count. one_next (count * k))))
