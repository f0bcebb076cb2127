-- The types of octets strictly ascend.
use Rattle.std.proofs.Common.{◌≡◌, ℕ, zero, suc, ◌+◌, ◌-◌, ◌*◌, ◌<◌, ◌≤◌, Bool, true, false, cond, List, [], ◌∷◌, ◌++◌}
use Rattle.std.proofs.Common.{length, get_or, map, filter, sym, ap, subst, arith}
use Rattle.std.specs.List.{flat_map, range_with_len}
use Rattle.std.specs.List.Sorted.{IsStrictlyIncreasing}
use Rattle.octseq_dns_data.specs.RtypeBitmap.{WindowBlock, IsWindowBlock, AscendFrom, AreBlocksFrom, IsRtypeBitmap}
use Rattle.octseq_dns_data.specs.RtypeBitmap.{block_types, is_listed, places_from, types_of}
use Rattle.octseq_dns_data.proofs.RtypeBitmaps.{blocks_are}

-- the types of octets are those of the blocks that they are made of
pub types_of_blocks : (octets : List ℕ) (blocks : List WindowBlock) → AreBlocksFrom 0 octets blocks
    → types_of octets ≡ flat_map block_types blocks
types_of_blocks octets blocks is = ap (flat_map block_types) (blocks_are octets blocks is.0)

-- numbers strictly ascend, from one on, and are all below another
abbrev AscendsTo : ℕ → ℕ → List ℕ → Type 0
AscendsTo low high [] = low ≤ high
AscendsTo low high (x ∷ xs) = (low ≤ x) × AscendsTo (x + 1) high xs

from_lower : (low lower high : ℕ) (xs : List ℕ) → lower ≤ low → AscendsTo low high xs → AscendsTo lower high xs
from_lower low lower high [] less is = omega (arith, less, is)
from_lower low lower high (x ∷ xs) less is = let first = is.0 in (omega (arith, less, first), is.1)

to_higher : (low high top : ℕ) (xs : List ℕ) → high ≤ top → AscendsTo low high xs → AscendsTo low top xs
to_higher low high top [] more is = omega (arith, more, is)
to_higher low high top (x ∷ xs) more is = (is.0, to_higher (x + 1) high top xs more is.1)

joined : (low middle high : ℕ) (xs ys : List ℕ) → AscendsTo low middle xs → AscendsTo middle high ys
    → AscendsTo low high (xs ++ ys)
joined low middle high [] ys front back = from_lower middle low high ys front back
joined low middle high (x ∷ xs) ys front back = (front.0, joined (x + 1) middle high xs ys front.1 back)

with_first : (passes : Bool) (first high : ℕ) (xs : List ℕ) → AscendsTo (first + 1) high xs
    → AscendsTo first high (cond passes (first ∷ xs) xs)
with_first true first high xs is = (omega arith, is)
with_first false first high xs is = from_lower (first + 1) first high xs (omega arith) is

filtered : (p : ℕ → Bool) (first count high : ℕ) → high ≡ first + count
    → AscendsTo first high (filter p (range_with_len first count))
filtered p first zero high is = omega (arith, is)
filtered p first (suc count) high is = with_first (p first) first high (filter p (range_with_len (first + 1) count))
    (filtered p (first + 1) count high (omega (arith, is)))

shifted : (by low high : ℕ) (xs : List ℕ) → AscendsTo low high xs
    → AscendsTo (by + low) (by + high) (map (λ x. by + x) xs)
shifted by low high [] is = omega (arith, is)
shifted by low high (x ∷ xs) is =
    let first = is.0 in
    let next : by + (x + 1) ≡ by + x + 1 = omega arith in (
      omega (arith, first),
      subst (λ low. AscendsTo low (by + high) (map (λ x. by + x) xs)) next (shifted by (x + 1) high xs is.1),
    )

-- the types of a block are in its window
block_ascends : (block : WindowBlock) → IsWindowBlock block
    → AscendsTo (256 * block.number) (256 * (block.number + 1)) (block_types block)
block_ascends block form =
    let count = 8 * length block.bitmap - 0 in
    let few = form.few in
    let base = 256 * block.number in
    to_higher base (base + count) (256 * (block.number + 1)) (block_types block) (omega (arith, few))
    (from_lower (base + 0) base (base + count) (block_types block) (omega arith)
    (shifted base 0 count (places_from block.bitmap 0) (filtered (is_listed block.bitmap) 0 count count (omega arith))))

blocks_ascend : (least : ℕ) (blocks : List WindowBlock) → AscendFrom least blocks
    → (high : ℕ) × AscendsTo (256 * least) high (flat_map block_types blocks)
blocks_ascend least [] is = (256 * least, omega arith)
blocks_ascend least (block ∷ blocks) is =
    let number = block.number in
    let later = flat_map block_types blocks in
    let more = blocks_ascend (number + 1) blocks is.2 in
    let first = is.0 in (
      more.0,
      from_lower (256 * number) (256 * least) more.0 (block_types block ++ later) (omega (arith, first))
          (joined (256 * number) (256 * (number + 1)) more.0 (block_types block) later (block_ascends block is.1)
          more.1),
    )

each_next : (low high : ℕ) (xs : List ℕ) → AscendsTo low high xs → (k : ℕ) → suc k < length xs
    → get_or xs k 0 < get_or xs (suc k) 0
each_next low high [] is k few = absurd (omega (arith, few))
each_next low high (x ∷ []) is k few = absurd (omega (arith, few))
each_next low high (x ∷ y ∷ ys) is zero few = let next = is.1.0 in omega (arith, next)
each_next low high (x ∷ y ∷ ys) is (suc k) few = each_next (x + 1) high (y ∷ ys) is.1 k (omega (arith, few))

strictly : (low high : ℕ) (xs : List ℕ) → AscendsTo low high xs → IsStrictlyIncreasing xs
strictly low high xs is = λ k few.
    let next : suc k ≡ k + 1 = omega arith in
    subst (λ n. get_or xs k 0 < get_or xs n 0) next (each_next low high xs is k (omega (arith, few)))

pub types_ascend : (octets : List ℕ) → IsRtypeBitmap octets → IsStrictlyIncreasing (types_of octets)
types_ascend octets bitmap =
    let blocks = bitmap.0 in
    let ascend = blocks_ascend 0 blocks bitmap.1.1 in
    subst IsStrictlyIncreasing (sym (types_of_blocks octets blocks bitmap.1))
    (strictly 0 ascend.0 (flat_map block_types blocks) ascend.1)
