-- Values after a length or a count of k octets, big-endian. The length includes `extra` octets more, those that a
-- has before the value and counts with it.
use Rattle.std.specs.Prelude.{ℕ, ◌<◌, ◌^◌, List}
use Rattle.octseq.specs.Integer.{be, octets_be}
use Rattle.octseq_format.specs.Canonical.{IsCanonical}
use Rattle.octseq_format.specs.Family.{IsSized, SizedFit, sized_number, one_sized, onward_sized, delimited_sized}
use Rattle.octseq_format.specs.Family.{canonical_sized, one_many_by, onward_many}
use Rattle.octseq_format.specs.Fixed.{IsFixed, one_fixed, onward_fixed, delimited_fixed, canonical_fixed}
use Rattle.octseq_format.specs.Integers.{are_be}
use Rattle.octseq_format.specs.Laws.{Relation, IsOne, IsOnward, IsReadBack, IsDelimited}
use Rattle.octseq_format.specs.Row.{Many}
use Rattle.octseq_format.specs.Tagged.{Tagged, tagged_octets, TaggedFits, one_tagged, onward_tagged, delimited_tagged}
use Rattle.octseq_format.specs.Tagged.{canonical_tagged}

-- It takes all of the octets that its length counts.
abbrev pub Counted : {A : Type 0} → ℕ → ℕ → Relation A → Relation A
Counted k extra Is = Tagged (IsFixed k be) (IsSized extra Is)

-- as many as the count says
abbrev pub Times : {A : Type 0} → ℕ → Relation A → Relation (List A)
Times k Is = Tagged (IsFixed k be) (λ n. Many n Is)

-- its octets, after their length
abbrev pub counted_octets : {S : Type 0} → ℕ → ℕ → (S → List ℕ) → S → List ℕ
counted_octets k extra octets = tagged_octets (octets_be k) (sized_number extra octets) (λ _. octets)

-- It fits, and the length of its octets fits k octets.
abbrev pub CountFits : {S : Type 0} → ℕ → ℕ → (S → List ℕ) → (S → Type 0) → S → Type 0
CountFits k extra octets Fits = TaggedFits (λ n. n < 256 ^ k) (sized_number extra octets) (SizedFit extra octets Fits)

-- ---- lemmas: proved below this line, so what the words mean is read above it

pub onward_counted : {A : Type 0} (k extra : ℕ) (Is : Relation A) → IsOnward k (Counted k extra Is)
onward_counted k extra Is = onward_tagged (onward_fixed k be) (onward_sized extra Is)

pub one_times : {A : Type 0} (k : ℕ) (Is : Relation A) → IsOne Is → IsOne (Times k Is)
one_times k Is one = one_tagged (one_fixed k be) (one_many_by Is one)

module _ {A : Type 0} {Is : Relation A} {k extra : ℕ} where
  pub one_counted : IsOne Is → IsOne (Counted k extra Is)
  one_counted one = one_tagged (one_fixed k be) (one_sized one)

  module _ {S : Type 0} {says : A → S} {octets : S → List ℕ} {Fits : S → Type 0} where
    pub delimited_counted : IsReadBack Is says octets Fits
        → IsDelimited (Counted k extra Is) says (counted_octets k extra octets) (CountFits k extra octets Fits)
    delimited_counted back = delimited_tagged (delimited_fixed (are_be k)) (delimited_sized back)

    pub canonical_counted : IsCanonical Is says octets Fits
        → IsCanonical (Counted k extra Is) says (counted_octets k extra octets) (CountFits k extra octets Fits)
    canonical_counted canonical =
        canonical_tagged (canonical_fixed (are_be k)) (canonical_sized canonical) (λ key said fits. fits.many)
