-- Sets of record types, as octets: RFC 4034, 4.1.2.
use Rattle.std.specs.Prelude.{◌≡◌, ◌≢◌, ℕ, zero, suc, ◌+◌, ◌-◌, ◌*◌, ◌/◌, ◌%◌, ◌≤◌, Bool, ◌==◌, List, [], ◌∷◌}
use Rattle.std.specs.Prelude.{length, take, drop, map, filter, slice_index}
use Rattle.std.specs.Int.{bit_at}
use Rattle.std.specs.List.{flat_map, range_with_len}

-- A window block: the number of its window, and its bitmap.
pub record WindowBlock : Type 0 where
  pub number : ℕ
  pub bitmap : List ℕ

-- its octets: the number, the size of the bitmap, and the bitmap
abbrev pub block_octets : WindowBlock → List ℕ
block_octets block = block.number ∷ length block.bitmap ∷ block.bitmap

-- The bitmap has 1 to 32 octets, and the last one isn't 0.
pub record IsWindowBlock (block : WindowBlock) : Type 0 where
  pub some : 1 ≤ length block.bitmap
  pub few : length block.bitmap ≤ 32
  pub last : slice_index block.bitmap (length block.bitmap - 1) ≢ 0

-- window blocks whose numbers strictly ascend, from `least` on
abbrev pub AscendFrom : ℕ → List WindowBlock → Type 0
AscendFrom least [] = Unit {0}
AscendFrom least (block ∷ blocks) = (least ≤ block.number) × IsWindowBlock block × AscendFrom (block.number + 1) blocks

-- octets are such blocks, one after another
abbrev pub AreBlocksFrom : ℕ → List ℕ → List WindowBlock → Type 0
AreBlocksFrom least octets blocks = (octets ≡ flat_map block_octets blocks) × AscendFrom least blocks

abbrev pub HasBlocksFrom : ℕ → List ℕ → Type 0
HasBlocksFrom least octets = (blocks : List WindowBlock) × AreBlocksFrom least octets blocks

-- Octets are a type bitmap: window blocks with strictly ascending numbers.
abbrev pub IsRtypeBitmap : List ℕ → Type 0
IsRtypeBitmap octets = HasBlocksFrom 0 octets

-- the window blocks of octets, at most `count`
abbrev pub blocks_within : ℕ → List ℕ → List WindowBlock
blocks_within zero octets = []
blocks_within (suc count) [] = []
blocks_within (suc count) (number ∷ []) = []
blocks_within (suc count) (number ∷ size ∷ octets) =
    record { number = number; bitmap = take size octets } ∷ blocks_within count (drop size octets)

-- all window blocks
abbrev pub blocks_of : List ℕ → List WindowBlock
blocks_of octets = blocks_within (length octets) octets

-- the turns that the check of a type bitmap takes: one for each window block
abbrev pub bitmap_turns : List ℕ → ℕ
bitmap_turns octets = length (blocks_of octets)

-- whether the bit of a place in the window is set, counting from the highest bit of an octet
abbrev pub is_listed : List ℕ → ℕ → Bool
is_listed bitmap place = bit_at (slice_index bitmap (place / 8)) (7 - place % 8) == 1

-- the places of its types, from `place` on
abbrev pub places_from : List ℕ → ℕ → List ℕ
places_from bitmap place = filter (is_listed bitmap) (range_with_len place (8 * length bitmap - place))

-- the types of places of a window
abbrev pub types_at : ℕ → List ℕ → List ℕ
types_at number places = map (λ place. 256 * number + place) places

-- the types of a window block, ascending
abbrev pub block_types : WindowBlock → List ℕ
block_types block = types_at block.number (places_from block.bitmap 0)

-- the types of octets, ascending
abbrev pub types_of : List ℕ → List ℕ
types_of octets = flat_map block_types (blocks_of octets)
