-- How the finder reads: what the first octet requires of the others, and how many octets at the front fit. This is a
-- second definition of the table, one that computes. Proofs show that both are the same, and public contracts don't
-- cite this one.
use Rattle.std.specs.Prelude.{ℕ, zero, suc, ◌-◌, max, Bool, nat_lt, ◌==◌, ◌&&◌, List}
use Rattle.std.specs.Prelude.{[], ◌∷◌, length, take, slice_index, if◌then◌else◌}
use Rattle.std.specs.Int.{is_in_range}
use Rattle.octseq_utf8.specs.Encoding.{number_of}
use Rattle.octseq_utf8.specs.Parts.{Part, Char, Bad}

-- the number of octets of an encoding that begins with this octet, or 0 if none does
unfoldable pub width_of : ℕ → ℕ
width_of first =
    if nat_lt first 0x80 then 1 else
    (if nat_lt first 0xC2 then 0 else
    (if nat_lt first 0xE0 then 2 else (if nat_lt first 0xF0 then 3 else (if nat_lt first 0xF5 then 4 else 0))))

-- the least and the greatest octet that can be second

unfoldable pub least_second : ℕ → ℕ
least_second first = if first == 0xE0 then 0xA0 else (if first == 0xF0 then 0x90 else 0x80)

unfoldable pub greatest_second : ℕ → ℕ
greatest_second first = if first == 0xED then 0x9F else (if first == 0xF4 then 0x8F else 0xBF)

-- the number of octets of n that fit a width, by whether the second, the third and the fourth are in their ranges
unfoldable pub fitting_by : ℕ → ℕ → Bool → Bool → Bool → ℕ
fitting_by width n second third fourth =
    if nat_lt width 2 then width else (if nat_lt n 2 then 1 else (if second then
    (if nat_lt width 3 then 2 else (if nat_lt n 3 then 2 else (if third then
    (if nat_lt width 4 then 3 else (if nat_lt n 4 then 3 else (if fourth then 4 else 3)))
    else 2))) else 1))

-- the width that the first octet requires
abbrev pub width : List ℕ → ℕ
width octets = width_of (slice_index octets 0)

-- the number of octets at the front that fit an encoding that begins with the first
abbrev pub fitting : List ℕ → ℕ
fitting octets = let first = slice_index octets 0 in
    fitting_by (width_of first) (length octets)
    (is_in_range (least_second first) (greatest_second first) (slice_index octets 1))
    (is_in_range 0x80 0xBF (slice_index octets 2)) (is_in_range 0x80 0xBF (slice_index octets 3))

-- the number of octets of the first part
abbrev pub part_len : List ℕ → ℕ
part_len octets = max (fitting octets) 1

-- the first part: an encoding if all of its width fits
unfoldable pub first_part : List ℕ → Part
first_part octets = let part = take (part_len octets) octets in
    if nat_lt 0 (width octets) && fitting octets == width octets then Char (number_of part) else Bad part

-- the parts after the first n octets
unfoldable pub parts_after : ℕ → List ℕ → List Part
parts_after n [] = []
parts_after zero (a ∷ octets) = first_part (a ∷ octets) ∷ parts_after (part_len (a ∷ octets) - 1) octets
parts_after (suc n) (a ∷ octets) = parts_after n octets

-- the parts of octets
abbrev pub parts_of : List ℕ → List Part
parts_of octets = parts_after 0 octets
