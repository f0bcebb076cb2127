-- Type bitmaps: their window blocks, and their types.
use Rattle.std.proofs.Common.{◌≡◌, ℕ, zero, suc, ◌+◌, ◌-◌, ◌*◌, ◌<◌, ◌≤◌, true, false, cond, List, [], ◌∷◌, ◌++◌}
use Rattle.std.proofs.Common.{length, drop, filter, refl, sym, ap, ◌∙◌, subst, arith, length-append}
use Rattle.std.proofs.Math.Seq.{take-append_seam, drop-append_seam}
use Rattle.std.specs.List.{flat_map, range_with_len}
use Rattle.octseq_dns_data.specs.OneBitmap.{one_block}
use Rattle.octseq_dns_data.specs.RtypeBitmap.{WindowBlock, IsWindowBlock, AreBlocksFrom, AscendFrom, HasBlocksFrom}
use Rattle.octseq_dns_data.specs.RtypeBitmap.{IsRtypeBitmap}
use Rattle.octseq_dns_data.specs.RtypeBitmap.{block_octets, block_types, blocks_of, blocks_within, is_listed}
use Rattle.octseq_dns_data.specs.RtypeBitmap.{places_from, types_at, types_of}

-- ---- window blocks, one after another

-- a window block followed by window blocks
pub blocks_then : (least next : ℕ) (octets rest : List ℕ) (block : WindowBlock) (blocks : List WindowBlock)
    → octets ≡ block_octets block ++ rest → IsWindowBlock block → least ≤ block.number → next ≡ block.number + 1
    → AreBlocksFrom next rest blocks → AreBlocksFrom least octets (block ∷ blocks)
blocks_then least next octets rest block blocks is form least_is same more = (
  is ∙ ap (λ rest. block_octets block ++ rest) more.0,
  (least_is, form, subst (λ least. AscendFrom least blocks) same more.1),
)

pub block_then : (least next : ℕ) (octets rest : List ℕ) (block : WindowBlock) → octets ≡ block_octets block ++ rest
    → IsWindowBlock block → least ≤ block.number → next ≡ block.number + 1 → HasBlocksFrom next rest
    → HasBlocksFrom least octets
block_then least next octets rest block is form least_is same more =
    (block ∷ more.0, blocks_then least next octets rest block more.0 is form least_is same more.1)

-- so the first block is followed by window blocks
pub after_block : (least next : ℕ) (octets rest : List ℕ) (block : WindowBlock) → octets ≡ block_octets block ++ rest
    → next ≡ block.number + 1 → HasBlocksFrom least octets → (least ≤ block.number) × HasBlocksFrom next rest
after_block least next octets rest block is same ([], (none, tt)) =
    let long = ap length (sym is ∙ none) in absurd (omega (arith, long))
after_block least next octets rest block is same (first ∷ blocks, (spelled, ascend)) =
    let both = one_block block first rest (flat_map block_octets blocks) (sym is ∙ spelled) in
    let number = ap (λ (block : WindowBlock). block.number) both.0 in (
      omega (arith, number, ascend.0),
      (blocks, (both.1, subst (λ least. AscendFrom least blocks) (omega (arith, number, same)) ascend.2)),
    )

-- no octets are no blocks
pub no_blocks : (least : ℕ) (octets : List ℕ) → length octets ≡ 0 → AreBlocksFrom least octets []
no_blocks least [] none = (refl, tt)
no_blocks least (o ∷ octets) none = absurd (omega (arith, none))

-- if no block is first, there is none
pub no_block : (least : ℕ) (octets : List ℕ) → HasBlocksFrom least octets
    → ((block : WindowBlock) (rest : List ℕ) → IsWindowBlock block → octets ≡ block_octets block ++ rest → ⊥)
    → octets ≡ []
no_block least octets ([], (none, tt)) not = none
no_block least octets (first ∷ blocks, (spelled, ascend)) not =
    absurd (not first (flat_map block_octets blocks) ascend.1 spelled)

-- a block has at least three octets
pub block_length : (octets rest : List ℕ) (block : WindowBlock) → octets ≡ block_octets block ++ rest
    → IsWindowBlock block → length rest + 3 ≤ length octets
block_length octets rest block is form =
    let long = ap length is in
    let parts = length-append block.bitmap rest in
    let some = form.some in
    omega (arith, long, parts, some)

-- they also ascend from any lower number
pub ascend_lower : (least lower : ℕ) (blocks : List WindowBlock) → lower ≤ least → AscendFrom least blocks
    → AscendFrom lower blocks
ascend_lower least lower [] low ascend = tt
ascend_lower least lower (block ∷ blocks) low ascend =
    let first = ascend.0 in (omega (arith, low, first), ascend.1, ascend.2)

-- so what follows the first block is a type bitmap
pub bitmap_after : (octets rest : List ℕ) (block : WindowBlock) → octets ≡ block_octets block ++ rest
    → IsRtypeBitmap octets → IsRtypeBitmap rest
bitmap_after octets rest block is bitmap =
    let more = (after_block 0 (block.number + 1) octets rest block is refl bitmap).1 in
    (more.0, (more.1.0, ascend_lower (block.number + 1) 0 more.0 (omega arith) more.1.1))

-- ---- the types of octets

-- the blocks of octets are those that they are made of
spelled_within : (count : ℕ) (blocks : List WindowBlock) → length blocks ≤ count
    → blocks_within count (flat_map block_octets blocks) ≡ blocks
spelled_within zero [] few = refl
spelled_within zero (block ∷ blocks) few = absurd (omega (arith, few))
spelled_within (suc count) [] few = refl
spelled_within (suc count) (block ∷ blocks) few =
    let bitmap = block.bitmap in
    let more = flat_map block_octets blocks in
    ap (λ bitmap. let first : WindowBlock = record { number = block.number; bitmap = bitmap } in
    first ∷ blocks_within count (drop (length block.bitmap) (block.bitmap ++ more))) (take-append_seam bitmap more)
    ∙ ap (λ octets. block ∷ blocks_within count octets) (drop-append_seam bitmap more)
    ∙ ap (λ blocks. block ∷ blocks) (spelled_within count blocks (omega (arith, few)))

few_blocks : (blocks : List WindowBlock) → length blocks ≤ length (flat_map block_octets blocks)
few_blocks [] = omega arith
few_blocks (block ∷ blocks) =
    let more = few_blocks blocks in
    let parts = length-append block.bitmap (flat_map block_octets blocks) in
    omega (arith, more, parts)

pub blocks_are : (octets : List ℕ) (blocks : List WindowBlock) → octets ≡ flat_map block_octets blocks
    → blocks_of octets ≡ blocks
blocks_are octets blocks is =
    ap blocks_of is ∙ spelled_within (length (flat_map block_octets blocks)) blocks (few_blocks blocks)

-- the types of octets are those of the first block, followed by those of the rest
pub types_then : (octets rest : List ℕ) (block : WindowBlock) → octets ≡ block_octets block ++ rest
    → IsRtypeBitmap rest → types_of octets ≡ block_types block ++ types_of rest
types_then octets rest block is bitmap =
    let blocks = bitmap.0 in
    let spelled : octets ≡ flat_map block_octets (block ∷ blocks) =
    is ∙ ap (λ rest. block_octets block ++ rest) bitmap.1.0 in
    ap (flat_map block_types) (blocks_are octets (block ∷ blocks) spelled)
    ∙ ap (λ blocks. block_types block ++ flat_map block_types blocks) (sym (blocks_are rest blocks bitmap.1.0))

-- ---- the places of a bitmap

-- the places from `place` on are `place`, if its bit is set, followed by those from the next one on
place_then : (bitmap : List ℕ) (place : ℕ) → place < 8 * length bitmap → places_from bitmap place
    ≡ cond (is_listed bitmap place) (place ∷ places_from bitmap (place + 1)) (places_from bitmap (place + 1))
place_then bitmap place within =
    let count : 8 * length bitmap - place ≡ suc (8 * length bitmap - (place + 1)) = omega (arith, within) in
    ap (λ n. filter (is_listed bitmap) (range_with_len place n)) count

pub place_listed : (bitmap : List ℕ) (place : ℕ) → place < 8 * length bitmap → is_listed bitmap place ≡ true
    → places_from bitmap place ≡ place ∷ places_from bitmap (place + 1)
place_listed bitmap place within listed = place_then bitmap place within
    ∙ ap (λ b. cond b (place ∷ places_from bitmap (place + 1)) (places_from bitmap (place + 1))) listed

pub place_not : (bitmap : List ℕ) (place : ℕ) → place < 8 * length bitmap → is_listed bitmap place ≡ false
    → places_from bitmap place ≡ places_from bitmap (place + 1)
place_not bitmap place within listed = place_then bitmap place within
    ∙ ap (λ b. cond b (place ∷ places_from bitmap (place + 1)) (places_from bitmap (place + 1))) listed

-- ---- what an iterator has left

-- nothing, if no place and no block is left
pub nothing_left : (number : ℕ) (bitmap octets : List ℕ) (place : ℕ) → places_from bitmap place ≡ [] → octets ≡ []
    → types_at number (places_from bitmap place) ++ types_of octets ≡ []
nothing_left number bitmap octets place none empty =
    ap (λ places. types_at number places ++ types_of octets) none ∙ ap types_of empty

-- the types of the next block, if no place is left
pub block_left : (number : ℕ) (bitmap octets rest : List ℕ) (place : ℕ) (block : WindowBlock)
    → places_from bitmap place ≡ [] → octets ≡ block_octets block ++ rest → IsRtypeBitmap rest
    → types_at number (places_from bitmap place) ++ types_of octets ≡ block_types block ++ types_of rest
block_left number bitmap octets rest place block none is more =
    ap (λ places. types_at number places ++ types_of octets) none ∙ types_then octets rest block is more
