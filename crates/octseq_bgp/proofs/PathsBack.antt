-- Segments of AS paths are read back.
use Rattle.std.proofs.Common.{◌≡◌, ℕ, ◌*◌, ◌^◌, ◌<◌, ◌≤◌, Bool, true, false, List, [], ◌∷◌, ◌++◌, length, take}
use Rattle.std.proofs.Common.{drop, refl, ap, sym, ◌∙◌, subst, arith, length-append}
use Rattle.std.proofs.lemmas.List.Concat.{flat_map-cons}
use Rattle.std.specs.List.{AllByRecursion}
use Rattle.octseq.specs.Integer.{be, octets_be}
use Rattle.octseq.specs.Window.{rest, past}
use Rattle.octseq.proofs.Written.{length_be, value_be}
use Rattle.octseq_format.specs.Family.{SizedFit, WhenFits, delimited_sized, delimited_when}
use Rattle.octseq_format.specs.Fixed.{delimited_fixed}
use Rattle.octseq_format.specs.Integers.{are_be}
use Rattle.octseq_format.specs.Keyed.{delimited_keyed, keyed_octets, KeyedFit}
use Rattle.octseq_format.specs.Laws.{IsDelimited}
use Rattle.octseq_format.specs.Pair.{◌also◌, both_octets, both_say, ◌and◌, ◌before◌, ◌delimited_then◌, same_pair}
use Rattle.octseq_format.specs.Rest.{rest_read_back}
use Rattle.octseq_format.specs.Row.{row_octets}
use Rattle.octseq_format.specs.Scaled.{ScaledFit, delimited_scaled}
use Rattle.octseq_format.specs.Where.{WhereFits, delimited_where}
use Rattle.octseq_bgp.specs.ItemOctets.{take_front, drop_front}
use Rattle.octseq_bgp.specs.Parts.{IsNumber, IsSegment, IsSegmentType, Segment}
use Rattle.octseq_bgp.specs.Path.{asn_size}
use Rattle.octseq_bgp.specs.ValueText.{numbers}
use Rattle.octseq_bgp.specs.WrittenPath.{WrittenSegment, segment_octets, FitsSegment, says_segment}

-- ---- numbers

-- numbers of k octets have k octets each
pub row_long : (k : ℕ) (row : List ℕ) → length (row_octets (octets_be k) row) ≡ length row * k
row_long k [] = omega arith
row_long k (n ∷ row) =
    let both = ap length (flat_map-cons (octets_be k) n row) in
    let long = length-append (octets_be k n) (row_octets (octets_be k) row) in
    let first = length_be k n in
    let more = row_long k row in
    omega (arith, both, long, first, more)

-- and are read as they are
pub numbers_back : (k : ℕ) (row : List ℕ) → AllByRecursion (λ n. n < 256 ^ k) row
    → numbers k (length row) (row_octets (octets_be k) row) ≡ row
numbers_back k [] fits = refl
numbers_back k (n ∷ row) fits =
    let x = octets_be k n in
    let y = row_octets (octets_be k) row in
    let both = flat_map-cons (octets_be k) n row in
    let many = length_be k n in
    ap (λ o. be (take k o) ∷ numbers k (length row) (drop k o)) both
    ∙ ap (λ o. be o ∷ numbers k (length row) (drop k (x ++ y))) (take_front x y k many)
    ∙ ap (λ o. be x ∷ numbers k (length row) o) (drop_front x y k many)
    ∙ ap (λ m. m ∷ numbers k (length row) y) (value_be k n fits.0)
    ∙ ap (λ row. n ∷ row) (numbers_back k row fits.1)

-- ---- segments

-- a segment with the octets of its AS numbers
abbrev Raw : Type 0
Raw = ℕ × (ℕ × List ℕ)

abbrev raw_segment : ℕ → WrittenSegment → Raw
raw_segment k segment = (segment.0, (length segment.1, row_octets (octets_be k) segment.1))

abbrev raw_octets : Raw → List ℕ
raw_octets = octets_be 1 before keyed_octets (λ n. n) (octets_be 1) (λ _ o. o)

abbrev says_raw : Segment → Raw
says_raw = (λ n. n) and both_say (λ n. n) rest

abbrev FitsRaw : ℕ → Raw → Type 0
FitsRaw k = WhereFits (λ n. n < 256 ^ 1) IsSegmentType
    also KeyedFit (λ n. n) (λ n. n < 256 ^ 1)
    (WhenFits (λ count. 1 ≤ count) (ScaledFit k length (SizedFit 0 (λ o. o) (λ _. Unit {0}))))

delimited_raw : (k : ℕ) → IsDelimited (IsSegment k) says_raw raw_octets (FitsRaw k)
delimited_raw k =
    delimited_where (IsNumber 1) (λ n. n) IsSegmentType (octets_be 1) (λ n. n < 256 ^ 1) (delimited_fixed (are_be 1))
    delimited_then delimited_keyed (λ n. n) (λ n. n) (delimited_fixed (are_be 1))
    (delimited_when (λ count. 1 ≤ count) (delimited_scaled k length (delimited_sized rest_read_back)))

fits_raw : (wide : Bool) (segment : WrittenSegment) → FitsSegment wide segment
    → FitsRaw (asn_size wide) (raw_segment (asn_size wide) segment)
fits_raw true segment fits =
    let kind = fits.kind in
    let few = fits.few in
    let long = row_long 4 segment.1 in
    record {
      first = (omega (arith, kind.1), kind);
      second = record {
        first = omega (arith, few);
        second = (
          record {
            scales = (omega arith, omega (arith, few));
            inside = record { inside = tt; many = omega (arith, long) };
            told = long;
          },
          fits.some,
        );
      };
    }
fits_raw false segment fits =
    let kind = fits.kind in
    let few = fits.few in
    let long = row_long 2 segment.1 in
    record {
      first = (omega (arith, kind.1), kind);
      second = record {
        first = omega (arith, few);
        second = (
          record {
            scales = (omega arith, omega (arith, few));
            inside = record { inside = tt; many = omega (arith, long) };
            told = long;
          },
          fits.some,
        );
      };
    }

segment_of_raw : ℕ → Raw → WrittenSegment
segment_of_raw k raw = (raw.0, numbers k raw.1.0 raw.1.1)

octets_of_raw : (wide : Bool) (segment : WrittenSegment)
    → raw_octets (raw_segment (asn_size wide) segment) ≡ segment_octets wide segment
unfolding both_octets keyed_octets
octets_of_raw wide segment = refl

said_of_raw : (wide : Bool) (it : Segment) → segment_of_raw (asn_size wide) (says_raw it) ≡ says_segment wide it
unfolding both_say segment_of_raw
said_of_raw wide it = refl

pub delimited_segment : (wide : Bool)
    → IsDelimited (IsSegment (asn_size wide)) (says_segment wide) (segment_octets wide) (FitsSegment wide)
unfolding segment_of_raw
delimited_segment wide = record {
  next = λ w segment more fits is.
      let k = asn_size wide in
      let raw = raw_segment k segment in
      let same = octets_of_raw wide segment in
      let taken = (delimited_raw k).next w raw more (fits_raw wide segment fits)
      (is ∙ ap (λ o. o ++ more) (sym same)) in
      record {
        it = taken.it;
        tells = sym (said_of_raw wide taken.it) ∙ ap (segment_of_raw k) taken.tells
            ∙ same_pair refl (numbers_back k segment.1 fits.asns);
        is = subst (λ n. IsSegment k w taken.it (past n w)) (ap length same) taken.is;
      };
}
