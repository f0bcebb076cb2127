-- Each part takes at least one octet.
use Rattle.std.proofs.Common.{ℕ, ◌*◌, ◌≤◌, ◌∙◌, arith}
use Rattle.octseq.specs.Integer.{be}
use Rattle.octseq_format.specs.Counted.{onward_counted}
use Rattle.octseq_format.specs.Family.{any_onward, onward_sized, onward_when}
use Rattle.octseq_format.specs.Fixed.{onward_fixed}
use Rattle.octseq_format.specs.Laws.{Relation, IsOnward, IsMoving, moving_of}
use Rattle.octseq_format.specs.Pair.{◌onward_then◌}
use Rattle.octseq_format.specs.Rest.{IsRest}
use Rattle.octseq_format.specs.Scaled.{Scales}
use Rattle.octseq_format.specs.Tagged.{onward_by_switch}
use Rattle.octseq_format.specs.Where.{onward_where}
use Rattle.octseq_bgp.specs.Parts.{IsNumber, IsCounted, IsNext, ◌deciding◌, IsPrefix, IsPathPrefix, IsAttribute}
use Rattle.octseq_bgp.specs.Parts.{IsTlv, IsSegment}
use Rattle.octseq_bgp.specs.Parts.{IsSegmentType, octets_of_bits, is_extended}

pub onward_number : (k : ℕ) → IsOnward k (IsNumber k)
onward_number k = onward_fixed k be

onward_octets : (k : ℕ) → IsOnward k (IsCounted k)
onward_octets k = onward_counted k 0 IsRest

onward_next : (k : ℕ) → IsOnward 0 (IsNext k)
onward_next k = onward_sized 0 IsRest k

pub weaker : {A : Type 0} {Is : Relation A} {m n : ℕ} → n ≤ m → IsOnward m Is → IsOnward n Is
weaker fewer onward = record {
  on = onward.on;
  less = λ w a v is. let less = onward.less w a v is in omega (arith, less, fewer);
}

pub onward_deciding : {A B : Type 0} {First : Relation A} {Second : A → Relation B} {m : ℕ} → IsOnward m First
    → ((a : A) → IsOnward 0 (Second a)) → IsOnward m (First deciding Second)
onward_deciding first second = record {
  on = λ w a v ordered is.
      let one = first.on w a.0 is.0 ordered is.1 in
      let two = (second a.0).on is.0 a.1 v (omega (arith, one.1, one.2, one.3)) is.2 in
      (two.0 ∙ one.0, two.1 ∙ one.1, omega (arith, one.2, two.2), two.3);
  less = λ w a v is.
      let one = first.less w a.0 is.0 is.1 in
      let two = (second a.0).less is.0 a.1 v is.2 in
      omega (arith, one, two);
}

onward_prefix : (most : ℕ) → IsOnward 1 (IsPrefix most)
onward_prefix most = onward_deciding (onward_number 1)
    (onward_when (λ bits. bits ≤ most) (λ bits. onward_next (octets_of_bits bits)))

pub prefix_moves : (most : ℕ) → IsMoving (IsPrefix most)
prefix_moves most = moving_of (onward_prefix most) (omega arith)

pub path_prefix_moves : (most : ℕ) → IsMoving (IsPathPrefix most)
path_prefix_moves most = moving_of (onward_number 4 onward_then onward_prefix most) (omega arith)

pub attribute_moves : IsMoving IsAttribute
attribute_moves = moving_of (onward_deciding (onward_number 1) (λ flags. any_onward
    (onward_number 1 onward_then onward_by_switch (is_extended flags) (onward_octets 2) (onward_octets 1))))
    (omega arith)

pub tlv_moves : (k : ℕ) → IsMoving (IsTlv k)
tlv_moves k = moving_of (onward_number 1 onward_then onward_octets k) (omega arith)

pub segment_moves : (k : ℕ) → IsMoving (IsSegment k)
segment_moves k = moving_of (onward_where (IsNumber 1) (λ kind. kind) IsSegmentType (onward_number 1)
    onward_then onward_deciding (onward_number 1)
    (onward_when (λ count. 1 ≤ count) (onward_when (Scales k) (λ count. onward_next (count * k))))) (omega arith)
