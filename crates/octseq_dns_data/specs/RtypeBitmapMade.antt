-- The octets of a type bitmap, made from types in any order.
use Rattle.std.specs.Prelude.{ℕ, zero, suc, ◌+◌, ◌*◌, ◌/◌, ◌%◌, Bool, ◌==◌, if◌then◌else◌, List, [], ◌∷◌, map, max}
use Rattle.std.specs.List.{flat_map, list_any, range_with_len}
use Rattle.octseq_dns_data.specs.RtypeBitmap.{WindowBlock, block_octets}

-- whether `rtype` is one of the types
abbrev pub is_among : List ℕ → ℕ → Bool
is_among rtypes rtype = list_any (λ other. other == rtype) rtypes

-- the number of octets of a window's bitmap: as many as the highest type of the window needs
abbrev pub bitmap_size : ℕ → List ℕ → ℕ
bitmap_size number [] = 0
bitmap_size number (rtype ∷ rtypes) =
    if rtype / 256 == number then max (rtype % 256 / 8 + 1) (bitmap_size number rtypes) else bitmap_size number rtypes

-- `count` bits as a number, highest first: whether each type from `rtype` on is in the set
abbrev pub bits_number : (ℕ → Bool) → ℕ → ℕ → ℕ
bits_number is_in rtype zero = 0
bits_number is_in rtype (suc count) = 2 * bits_number is_in rtype count + (if is_in (rtype + count) then 1 else 0)

-- the octet of the eight types from `rtype` on
abbrev pub octet_of : List ℕ → ℕ → ℕ
octet_of rtypes rtype = bits_number (is_among rtypes) rtype 8

-- the first `size` octets of a window's bitmap
abbrev pub window_octets : List ℕ → ℕ → ℕ → List ℕ
window_octets rtypes number size = map (λ place. octet_of rtypes (256 * number + 8 * place)) (range_with_len 0 size)

-- the window block of a window, if one of the types is in it
abbrev pub window_blocks : List ℕ → ℕ → List WindowBlock
window_blocks rtypes number =
    let size = bitmap_size number rtypes in
    if size == 0 then [] else record { number = number; bitmap = window_octets rtypes number size } ∷ []

-- the window blocks of all windows
abbrev pub set_blocks : List ℕ → List WindowBlock
set_blocks rtypes = flat_map (window_blocks rtypes) (range_with_len 0 256)

-- the octets of the bitmap of these types
abbrev pub bitmap_of : List ℕ → List ℕ
bitmap_of rtypes = flat_map block_octets (set_blocks rtypes)
