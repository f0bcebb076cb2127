-- A type bitmap is that of its types.
use Rattle.std.proofs.Common.{◌≡◌, ◌≢◌, ℕ, zero, suc, ◌+◌, ◌-◌, ◌*◌, ◌/◌, ◌%◌, ◌<◌, ◌≤◌, ◌⊎◌, inl, inr, true}
use Rattle.std.proofs.Common.{List, [], ◌∷◌, length, refl, sym, ap, ◌∙◌, subst, arith}
use Rattle.std.proofs.lemmas.Bool.Decides.{Decides-eqb}
use Rattle.std.proofs.lemmas.Grind.{same_number_lists}
use Rattle.std.specs.Int.{bit_at}
use Rattle.std.specs.List.{flat_map, range_with_len}
use Rattle.std.specs.Prelude.{slice_index}
use Rattle.octseq_dns_data.proofs.Members.{Member, filter_member, map_member, member_cases, member_filter}
use Rattle.octseq_dns_data.proofs.Members.{member_left, member_map, member_range, member_right, range_member}
use Rattle.octseq_dns_data.specs.RtypeBitmap.{AscendFrom, IsWindowBlock, WindowBlock, block_types}
use Rattle.octseq_dns_data.specs.RtypeBitmap.{is_listed, places_from}

-- ---- the bits of an octet

octet_by_bits : (a b : ℕ) → a < 256 → b < 256 → ((k : ℕ) → k < 8 → bit_at a k ≡ bit_at b k) → a ≡ b
octet_by_bits a b small few same =
    let p0 : a % 2 ≡ b % 2 = let e = same 0 (omega arith) in omega (arith, e) in
    let p1 : a / 2 % 2 ≡ b / 2 % 2 = same 1 (omega arith) in
    let p2 : a / 4 % 2 ≡ b / 4 % 2 = same 2 (omega arith) in
    let p3 : a / 8 % 2 ≡ b / 8 % 2 = same 3 (omega arith) in
    let p4 : a / 16 % 2 ≡ b / 16 % 2 = same 4 (omega arith) in
    let p5 : a / 32 % 2 ≡ b / 32 % 2 = same 5 (omega arith) in
    let p6 : a / 64 % 2 ≡ b / 64 % 2 = same 6 (omega arith) in
    let p7 : a / 128 % 2 ≡ b / 128 % 2 = same 7 (omega arith) in
    omega (arith, small, few, p0, p1, p2, p3, p4, p5, p6, p7)

bit_below : (a k : ℕ) → bit_at a k < 2
bit_below a k = omega arith

bit_or : (bit : ℕ) → bit < 2 → (bit ≡ 1) ⊎ (bit ≡ 0)
bit_or zero few = inr refl
bit_or (suc zero) few = inl refl
bit_or (suc (suc bit)) few = absurd (omega (arith, few))

-- bits are the same if those that are set are
bits_same : (a b : ℕ) → a < 2 → b < 2 → (a ≡ 1 → b ≡ 1) → (b ≡ 1 → a ≡ 1) → a ≡ b
bits_same a b small few there back = by_case (bit_or a small) (bit_or b few)
  where
    by_case : (a ≡ 1) ⊎ (a ≡ 0) → (b ≡ 1) ⊎ (b ≡ 0) → a ≡ b
    by_case (inl one) other = one ∙ sym (there one)
    by_case (inr none) (inl one) = back one ∙ sym one
    by_case (inr none) (inr nothing) = none ∙ sym nothing

-- one of the lowest n bits is set, or none is
some_or_none : (a n : ℕ) → ((k : ℕ) × (k < n) × (bit_at a k ≡ 1)) ⊎ ((k : ℕ) → k < n → bit_at a k ≡ 0)
some_or_none a zero = inr (λ k few. absurd (omega (arith, few)))
some_or_none a (suc n) = by_case (bit_or (bit_at a n) (bit_below a n)) (some_or_none a n)
  where
    last_or : (k : ℕ) → k < suc n → (k < n) ⊎ (k ≡ n)
    last_or k few = grind (arith, few)

    by_case : (bit_at a n ≡ 1) ⊎ (bit_at a n ≡ 0)
        → ((k : ℕ) × (k < n) × (bit_at a k ≡ 1)) ⊎ ((k : ℕ) → k < n → bit_at a k ≡ 0)
        → ((k : ℕ) × (k < suc n) × (bit_at a k ≡ 1)) ⊎ ((k : ℕ) → k < suc n → bit_at a k ≡ 0)
    by_case (inl one) other = inl (n, omega arith, one)
    by_case (inr none) (inl (k, few, one)) = inl (k, omega (arith, few), one)
    by_case (inr none) (inr all) = inr (λ k few. elim (last_or k few) [
      | inl less ↦ all k less
      | inr same ↦ ap (bit_at a) same ∙ none
    ])

none_at : (k : ℕ) → k < 8 → bit_at 0 k ≡ 0
none_at k few = omega arith

-- an octet that isn't 0 has a bit that is set
some_bit : (a : ℕ) → a < 256 → a ≢ 0 → (k : ℕ) × (k < 8) × (bit_at a k ≡ 1)
some_bit a small some = elim (some_or_none a 8) [
  | inl found ↦ found
  | inr all ↦ absurd (some (octet_by_bits a 0 small (omega arith) (λ k few. all k few ∙ sym (none_at k few))))
]

-- ---- the types of a block

-- a bitmap of octets
abbrev pub AreBounded : List ℕ → Type 0
AreBounded bitmap = (i : ℕ) → i < length bitmap → slice_index bitmap i < 256

-- what is listed in a bitmap is among its places
listed_place : (bitmap : List ℕ) (place : ℕ) → place < 8 * length bitmap → is_listed bitmap place ≡ true
    → Member (places_from bitmap 0) place
listed_place bitmap place within listed =
    member_filter (is_listed bitmap) (range_with_len 0 (8 * length bitmap - 0)) place listed
    (member_range 0 (8 * length bitmap - 0) place (omega arith) (omega (arith, within)))

place_listed : (bitmap : List ℕ) (place : ℕ) → Member (places_from bitmap 0) place
    → (place < 8 * length bitmap) × (is_listed bitmap place ≡ true)
place_listed bitmap place is =
    let both = filter_member (is_listed bitmap) (range_with_len 0 (8 * length bitmap - 0)) place is in
    let within = (range_member 0 (8 * length bitmap - 0) place both.0).1 in
    (omega (arith, within), both.1)

type_member : (block : WindowBlock) (place : ℕ) → place < 8 * length block.bitmap
    → is_listed block.bitmap place ≡ true → Member (block_types block) (256 * block.number + place)
type_member block place within listed =
    member_map (λ p. 256 * block.number + p) (places_from block.bitmap 0) place
    (listed_place block.bitmap place within listed)

-- the place of a type in its window
member_place : (block : WindowBlock) (rtype : ℕ) → Member (block_types block) rtype → (place : ℕ)
    × (place < 8 * length block.bitmap) × (is_listed block.bitmap place ≡ true) × (256 * block.number + place ≡ rtype)
member_place block rtype is =
    let found = map_member (λ p. 256 * block.number + p) (places_from block.bitmap 0) rtype is in
    let listed = place_listed block.bitmap found.0 found.1 in
    (found.0, listed.0, listed.1, found.2)

-- it is in the window
pub in_window : (block : WindowBlock) (rtype : ℕ) → IsWindowBlock block → Member (block_types block) rtype
    → (256 * block.number ≤ rtype) × (rtype < 256 * (block.number + 1))
in_window block rtype form is =
    let (place, within, listed, same) = member_place block rtype is in
    let few = form.few in
    (omega (arith, same), omega (arith, same, within, few))

-- the types of blocks are in the windows from the first on
from_window : (least : ℕ) (blocks : List WindowBlock) (rtype : ℕ) → AscendFrom least blocks
    → Member (flat_map block_types blocks) rtype → 256 * least ≤ rtype
from_window least [] rtype ascend is = elim is [ ]
from_window least (block ∷ blocks) rtype ascend is =
    elim (member_cases (block_types block) (flat_map block_types blocks) rtype is) [
      | inl here ↦
          let low = (in_window block rtype ascend.1 here).0 in
          let first = ascend.0 in
          omega (arith, low, first)
      | inr there ↦
          let low = from_window (block.number + 1) blocks rtype ascend.2 there in
          let first = ascend.0 in
          omega (arith, low, first)
    ]

-- a block has a type whose place is in its last octet
last_type : (block : WindowBlock) → IsWindowBlock block → AreBounded block.bitmap → (place : ℕ)
    × (place / 8 + 1 ≡ length block.bitmap) × Member (block_types block) (256 * block.number + place)
last_type block form bounded =
    let bitmap = block.bitmap in
    let last = length bitmap - 1 in
    let some = form.some in
    let (k, few, set) = some_bit (slice_index bitmap last) (bounded last (omega (arith, some))) form.last in
    let place = 8 * last + (7 - k) in
    let octet : place / 8 ≡ last = omega (arith, few) in
    let bit : 7 - place % 8 ≡ k = omega (arith, few) in
    let listed : is_listed bitmap place ≡ true =
    (Decides-eqb (bit_at (slice_index bitmap (place / 8)) (7 - place % 8)) 1).1
    (ap (λ i. bit_at (slice_index bitmap i) (7 - place % 8)) octet ∙ ap (bit_at (slice_index bitmap last)) bit ∙ set) in
    (place, omega (arith, octet, some), type_member block place (omega (arith, few, some)) listed)

-- ---- the same types are of the same blocks

abbrev pub Within : List ℕ → List ℕ → Type 0
Within rtypes others = (rtype : ℕ) → Member rtypes rtype → Member others rtype

-- a place that is listed in one block is listed in another of the same window
also_listed : (x y : WindowBlock) (place : ℕ) → x.number ≡ y.number → Within (block_types x) (block_types y)
    → place < 8 * length x.bitmap → is_listed x.bitmap place ≡ true
    → (place < 8 * length y.bitmap) × (is_listed y.bitmap place ≡ true)
also_listed x y place same all within listed =
    let (other, few, also, is) =
    member_place y (256 * x.number + place) (all (256 * x.number + place) (type_member x place within listed)) in
    let one : other ≡ place = omega (arith, is, same) in
    (omega (arith, few, one), subst (λ p. is_listed y.bitmap p ≡ true) one also)

no_longer : (x y : WindowBlock) → IsWindowBlock x → AreBounded x.bitmap → x.number ≡ y.number
    → Within (block_types x) (block_types y) → length x.bitmap ≤ length y.bitmap
no_longer x y form bounded same all =
    let (place, last, is) = last_type x form bounded in
    let (other, few, also, at) = member_place y (256 * x.number + place) (all (256 * x.number + place) is) in
    omega (arith, last, few, at, same)

-- so is each bit of each octet
bit_also : (x y : WindowBlock) (i k : ℕ) → x.number ≡ y.number → Within (block_types x) (block_types y)
    → i < length x.bitmap → k < 8 → bit_at (slice_index x.bitmap i) k ≡ 1 → bit_at (slice_index y.bitmap i) k ≡ 1
bit_also x y i k same all within few set =
    let place = 8 * i + (7 - k) in
    let octet : place / 8 ≡ i = omega (arith, few) in
    let bit : 7 - place % 8 ≡ k = omega (arith, few) in
    let at = λ (bitmap : List ℕ). ap (λ j. bit_at (slice_index bitmap j) (7 - place % 8)) octet
    ∙ ap (bit_at (slice_index bitmap i)) bit in
    let listed : is_listed x.bitmap place ≡ true =
    (Decides-eqb (bit_at (slice_index x.bitmap (place / 8)) (7 - place % 8)) 1).1 (at x.bitmap ∙ set) in
    let other = also_listed x y place same all (omega (arith, within, few)) listed in
    sym (at y.bitmap)
    ∙ (Decides-eqb (bit_at (slice_index y.bitmap (place / 8)) (7 - place % 8)) 1).0 other.1

bitmaps_same : (x y : WindowBlock) → IsWindowBlock x → IsWindowBlock y → AreBounded x.bitmap → AreBounded y.bitmap
    → x.number ≡ y.number → Within (block_types x) (block_types y) → Within (block_types y) (block_types x)
    → x.bitmap ≡ y.bitmap
bitmaps_same x y form other bounded fits same there back =
    let one = no_longer x y form bounded same there in
    let two = no_longer y x other fits (sym same) back in
    same_number_lists x.bitmap y.bitmap (omega (arith, one, two)) (λ i few.
    octet_by_bits (slice_index x.bitmap i) (slice_index y.bitmap i) (bounded i few) (fits i (omega (arith, few, one)))
    (λ k less. bits_same (bit_at (slice_index x.bitmap i) k) (bit_at (slice_index y.bitmap i) k)
    (bit_below (slice_index x.bitmap i) k) (bit_below (slice_index y.bitmap i) k)
    (bit_also x y i k same there few less) (bit_also y x i k (sym same) back (omega (arith, few, one)) less)))

abbrev pub AllBounded : List WindowBlock → Type 0
AllBounded [] = Unit {0}
AllBounded (block ∷ blocks) = AreBounded block.bitmap × AllBounded blocks

-- the first window of blocks is no later than that of blocks with the same types
no_later : (least : ℕ) (x y : WindowBlock) (xs ys : List WindowBlock) → AscendFrom least (x ∷ xs)
    → AscendFrom least (y ∷ ys) → AreBounded x.bitmap
    → Within (flat_map block_types (x ∷ xs)) (flat_map block_types (y ∷ ys)) → y.number ≤ x.number
no_later least x y xs ys one two bounded all =
    let (place, last, is) = last_type x one.1 bounded in
    let rtype = 256 * x.number + place in
    let here = in_window x rtype one.1 is in
    let there = from_window y.number (y ∷ ys) rtype (omega arith, two.1, two.2)
    (all rtype (member_left (block_types x) (flat_map block_types xs) rtype is)) in
    omega (arith, here.1, there)

first_within : (x y : WindowBlock) (xs ys : List WindowBlock) → IsWindowBlock x → x.number ≡ y.number
    → AscendFrom (y.number + 1) ys → Within (flat_map block_types (x ∷ xs)) (flat_map block_types (y ∷ ys))
    → Within (block_types x) (block_types y)
first_within x y xs ys form same ascend all rtype is =
    let here = in_window x rtype form is in
    elim (member_cases (block_types y) (flat_map block_types ys) rtype
    (all rtype (member_left (block_types x) (flat_map block_types xs) rtype is))) [
      | inl found ↦ found
      | inr later ↦
          let low = from_window (y.number + 1) ys rtype ascend later in
          absurd (omega (arith, here.1, low, same))
    ]

rest_within : (x y : WindowBlock) (xs ys : List WindowBlock) → IsWindowBlock y → x.number ≡ y.number
    → AscendFrom (x.number + 1) xs → Within (flat_map block_types (x ∷ xs)) (flat_map block_types (y ∷ ys))
    → Within (flat_map block_types xs) (flat_map block_types ys)
rest_within x y xs ys form same ascend all rtype is =
    let low = from_window (x.number + 1) xs rtype ascend is in
    elim (member_cases (block_types y) (flat_map block_types ys) rtype
    (all rtype (member_right (block_types x) (flat_map block_types xs) rtype is))) [
      | inl first ↦
          let high = (in_window y rtype form first).1 in
          absurd (omega (arith, high, low, same))
      | inr found ↦ found
    ]

no_types : (least : ℕ) (x : WindowBlock) (xs : List WindowBlock) → AscendFrom least (x ∷ xs) → AreBounded x.bitmap
    → ¬ Within (flat_map block_types (x ∷ xs)) []
no_types least x xs ascend bounded all =
    let (place, last, is) = last_type x ascend.1 bounded in
    all (256 * x.number + place) (member_left (block_types x) (flat_map block_types xs) (256 * x.number + place) is)

pub blocks_same : (least : ℕ) (xs ys : List WindowBlock) → AscendFrom least xs → AscendFrom least ys → AllBounded xs
    → AllBounded ys → Within (flat_map block_types xs) (flat_map block_types ys)
    → Within (flat_map block_types ys) (flat_map block_types xs) → xs ≡ ys
blocks_same least [] [] one two bounded fits there back = refl
blocks_same least [] (y ∷ ys) one two bounded fits there back = absurd (no_types least y ys two fits.0 back)
blocks_same least (x ∷ xs) [] one two bounded fits there back = absurd (no_types least x xs one bounded.0 there)
blocks_same least (x ∷ xs) (y ∷ ys) one two bounded fits there back =
    let low = no_later least x y xs ys one two bounded.0 there in
    let high = no_later least y x ys xs two one fits.0 back in
    let number : x.number ≡ y.number = omega (arith, low, high) in
    let bitmap = bitmaps_same x y one.1 two.1 bounded.0 fits.0 number
    (first_within x y xs ys one.1 number two.2 there) (first_within y x ys xs two.1 (sym number) one.2 back) in
    let after = subst (λ n. AscendFrom (n + 1) ys) (sym number) two.2 in
    let rest = blocks_same (x.number + 1) xs ys one.2 after bounded.1 fits.1
    (rest_within x y xs ys two.1 number one.2 there) (rest_within y x ys xs one.1 (sym number) two.2 back) in
    λ i. record { number = number i; bitmap = bitmap i } ∷ rest i
