-- The octets made from types are a type bitmap, and have those types.
use Rattle.std.proofs.Common.{◌≡◌, ℕ, zero, suc, ◌+◌, ◌-◌, ◌*◌, ◌/◌, ◌%◌, ◌<◌, ◌≤◌, ◌^◌, ◌⊎◌, ◌↔◌}
use Rattle.std.proofs.Common.{inl, inr, Bool, true, false, ◌||◌, ◌==◌, if◌then◌else◌, max, List, [], ◌∷◌, ◌++◌}
use Rattle.std.proofs.Common.{length, get_or, refl, sym, ap, ◌∙◌, subst, arith, append_assoc, length-append}
use Rattle.std.proofs.lemmas.List.{append-nil}
use Rattle.std.proofs.lemmas.List.Concat.{flat_map-append}
use Rattle.std.proofs.lemmas.Bool.{false≢true, false_from_ne_true}
use Rattle.std.proofs.lemmas.Bool.Decides.{Decides-eqb}
use Rattle.std.proofs.lemmas.List.FromFn.{get_or-map-range_with_len, length-map-range_with_len, map-range_with_len_more}
use Rattle.std.proofs.lemmas.Nat.Bits.{bit_at-suc, bit_at-zero, bit_at_lowest}
use Rattle.std.proofs.Math.Nat.{le-max_left, le-max_right, pow-le-pow_right, pow-succ'}
use mir.Val.{bool_byte}
use Rattle.std.specs.Int.{bit_at}
use Rattle.std.specs.List.{Contains, flat_map, range_with_len}
use Rattle.octseq_dns_data.specs.RtypeBitmap.{WindowBlock, IsWindowBlock, AscendFrom, IsRtypeBitmap, block_octets}
use Rattle.octseq_dns_data.specs.RtypeBitmap.{block_types, is_listed, places_from, types_of}
use Rattle.octseq_dns_data.specs.RtypeBitmapMade.{bitmap_of, bitmap_size, bits_number, is_among, octet_of, set_blocks}
use Rattle.octseq_dns_data.specs.RtypeBitmapMade.{window_blocks, window_octets}
use Rattle.octseq_dns_data.proofs.Members.{Member, contained, member, member_filter, filter_member}
use Rattle.octseq_dns_data.proofs.Members.{member_flat, flat_member, member_map}
use Rattle.octseq_dns_data.proofs.Members.{map_member, member_range, range_member}
use Rattle.octseq_dns_data.proofs.RtypeBitmaps.{ascend_lower, blocks_are}

-- ---- types of a window

or_of : (a b : Bool) → a || b ≡ true → (a ≡ true) ⊎ (b ≡ true)
or_of true b is = inl refl
or_of false b is = inr is

pub among_member : (rtypes : List ℕ) (rtype : ℕ) → is_among rtypes rtype ≡ true → Member rtypes rtype
among_member [] rtype is = absurd (false≢true is)
among_member (first ∷ rtypes) rtype is = elim (or_of (first == rtype) (is_among rtypes rtype) is) [
  | inl here ↦ inl ((Decides-eqb first rtype).0 here)
  | inr there ↦ inr (among_member rtypes rtype there)
]

or_true : (a : Bool) → a || true ≡ true
or_true true = refl
or_true false = refl

pub member_among : (rtypes : List ℕ) (rtype : ℕ) → Member rtypes rtype → is_among rtypes rtype ≡ true
member_among [] rtype is = elim is [ ]
member_among (first ∷ rtypes) rtype (inl same) =
    ap (λ b. b || is_among rtypes rtype) ((Decides-eqb first rtype).1 same)
member_among (first ∷ rtypes) rtype (inr more) =
    ap (λ b. (first == rtype) || b) (member_among rtypes rtype more) ∙ or_true (first == rtype)

-- the size with one more type, by whether that type is in the window
sized : (b : Bool) (place size : ℕ) → ((b ≡ true) × ((if b then max place size else size) ≡ max place size))
    ⊎ ((if b then max place size else size) ≡ size)
sized true place size = inl (refl, refl)
sized false place size = inr refl

pub size_most : (number : ℕ) (rtypes : List ℕ) → bitmap_size number rtypes ≤ 32
size_most number [] = omega arith
size_most number (rtype ∷ rtypes) =
    let more = size_most number rtypes in
    elim (sized (rtype / 256 == number) (rtype % 256 / 8 + 1) (bitmap_size number rtypes)) [
      | inl in_it ↦ let is = in_it.1 in omega (arith, is, more)
      | inr other ↦ omega (arith, other, more)
    ]

grown : (b : Bool) (place size : ℕ) → size ≤ (if b then max place size else size)
grown true place size = le-max_right place size
grown false place size = omega arith

taken : (b : Bool) (place size : ℕ) → b ≡ true → place ≤ (if b then max place size else size)
taken true place size is = le-max_left place size
taken false place size is = absurd (false≢true is)

-- a type of the window has its octet
pub size_above : (number : ℕ) (rtypes : List ℕ) (rtype : ℕ) → Member rtypes rtype → rtype / 256 ≡ number
    → rtype % 256 / 8 + 1 ≤ bitmap_size number rtypes
size_above number [] rtype is window = elim is [ ]
size_above number (first ∷ rtypes) rtype (inl same) window =
    let in_it : first / 256 == number ≡ true = (Decides-eqb (first / 256) number).1 (ap (λ t. t / 256) same ∙ window) in
    let place = ap (λ t. t % 256 / 8 + 1) same in
    let most = taken (first / 256 == number) (first % 256 / 8 + 1) (bitmap_size number rtypes) in_it in
    omega (arith, place, most)
size_above number (first ∷ rtypes) rtype (inr is) window =
    let more = size_above number rtypes rtype is window in
    let most = grown (first / 256 == number) (first % 256 / 8 + 1) (bitmap_size number rtypes) in
    omega (arith, more, most)

-- and the last octet is that of a type
abbrev IsLast : ℕ → ℕ → List ℕ → Type 0
IsLast number size rtypes = (rtype : ℕ) × Member rtypes rtype × (rtype / 256 ≡ number) × (rtype % 256 / 8 + 1 ≡ size)

max_cases : (a b : ℕ) → (max a b ≡ a) ⊎ (max a b ≡ b)
max_cases zero b = inr (omega arith)
max_cases (suc a) zero = inl (omega arith)
max_cases (suc a) (suc b) = elim (max_cases a b) [
  | inl first ↦ inl (omega (arith, first))
  | inr second ↦ inr (omega (arith, second))
]

later_last : (number size first : ℕ) (rtypes : List ℕ) → IsLast number size rtypes → IsLast number size (first ∷ rtypes)
later_last number size first rtypes last = (last.0, inr last.1, last.2, last.3)

pub size_last : (number : ℕ) (rtypes : List ℕ) → 1 ≤ bitmap_size number rtypes
    → IsLast number (bitmap_size number rtypes) rtypes
size_last number [] some = absurd (omega (arith, some))
size_last number (rtype ∷ rtypes) some =
    let size = bitmap_size number rtypes in
    let place = rtype % 256 / 8 + 1 in
    let later : (whole : ℕ) → 1 ≤ whole → whole ≡ size → IsLast number whole (rtype ∷ rtypes) = λ whole one same.
    subst (λ whole. IsLast number whole (rtype ∷ rtypes)) (sym same)
    (later_last number size rtype rtypes (size_last number rtypes (omega (arith, one, same)))) in
    elim (sized (rtype / 256 == number) place size) [
      | inl in_it ↦ elim (max_cases place size) [
        | inl here ↦ (rtype, inl refl, (Decides-eqb (rtype / 256) number).0 in_it.0, sym (in_it.1 ∙ here))
        | inr there ↦ later (bitmap_size number (rtype ∷ rtypes)) some (in_it.1 ∙ there)
      ]
      | inr other ↦ later (bitmap_size number (rtype ∷ rtypes)) some other
    ]

-- ---- the bits of an octet

half : (n : ℕ) (b : Bool) → (2 * n + (if b then 1 else 0)) / 2 ≡ n
half n true = omega arith
half n false = omega arith

odd : (n : ℕ) (b : Bool) → (2 * n + (if b then 1 else 0)) % 2 ≡ (if b then 1 else 0)
odd n true = omega arith
odd n false = omega arith

-- bit m, from the lowest, is that of the type with m types after it
pub bit_says : (is_in : ℕ → Bool) (rtype j m n : ℕ) → n ≡ m + (j + 1)
    → bit_at (bits_number is_in rtype n) m ≡ (if is_in (rtype + j) then 1 else 0)
bit_says is_in rtype j m zero is = absurd (omega (arith, is))
bit_says is_in rtype j zero (suc n) is =
    let same : n ≡ j = omega (arith, is) in
    bit_at_lowest (bits_number is_in rtype (suc n)) ∙ odd (bits_number is_in rtype n) (is_in (rtype + n))
    ∙ ap (λ j. if is_in (rtype + j) then 1 else 0) same
bit_says is_in rtype j (suc m) (suc n) is =
    bit_at-suc (bits_number is_in rtype (suc n)) m
    ∙ ap (λ half. bit_at half m) (half (bits_number is_in rtype n) (is_in (rtype + n)))
    ∙ bit_says is_in rtype j m n (omega (arith, is))

is_one : (b : Bool) → (if b then 1 else 0) == 1 ≡ b
is_one true = refl
is_one false = refl

-- the types of a window's octets
pub listed : (rtypes : List ℕ) (number size place : ℕ) → place < 8 * size
    → is_listed (window_octets rtypes number size) place ≡ is_among rtypes (256 * number + place)
listed rtypes number size place within =
    let octet = place / 8 in
    let bit = place % 8 in
    let here : get_or (window_octets rtypes number size) octet 0 ≡ octet_of rtypes (256 * number + 8 * octet) =
    get_or-map-range_with_len (λ place. octet_of rtypes (256 * number + 8 * place)) 0 size octet octet 0
    (omega (arith, within)) (omega arith) in
    let same : 256 * number + 8 * octet + bit ≡ 256 * number + place = omega arith in
    ap (λ octet. bit_at octet (7 - bit) == 1) here
    ∙ ap (λ bit. bit == 1) (bit_says (is_among rtypes) (256 * number + 8 * octet) bit (7 - bit) 8 (omega arith))
    ∙ is_one (is_among rtypes (256 * number + 8 * octet + bit)) ∙ ap (is_among rtypes) same

-- a number of n bits is below 2 ^ n
bits_most : (is_in : ℕ → Bool) (rtype n : ℕ) → bits_number is_in rtype n < 2 ^ n
bits_most is_in rtype zero = omega arith
bits_most is_in rtype (suc n) =
    let more = bits_most is_in rtype n in
    let one = bit_most (is_in (rtype + n)) in
    let twice : 2 ^ suc n ≡ 2 * 2 ^ n = pow-succ' 2 n in
    omega (arith, more, one, twice)
  where
    bit_most : (b : Bool) → (if b then 1 else 0) ≤ 1
    bit_most true = omega arith
    bit_most false = omega arith

pub bits_few : (is_in : ℕ → Bool) (rtype n : ℕ) → n ≤ 7 → bits_number is_in rtype n < 128
bits_few is_in rtype n few =
    let most = bits_most is_in rtype n in
    let power : 2 ^ n ≤ 2 ^ 7 = pow-le-pow_right {n = 2} (omega arith) {i = n} {j = 7} few in
    omega (arith, most, power)

pub bit_few : (b : Bool) → bool_byte b ≤ 1
bit_few true = omega arith
bit_few false = omega arith

-- ---- the window blocks

abbrev made_block : List ℕ → ℕ → WindowBlock
made_block rtypes number =
    record { number = number; bitmap = window_octets rtypes number (bitmap_size number rtypes) }

made_length : (rtypes : List ℕ) (number : ℕ) → length (made_block rtypes number).bitmap ≡ bitmap_size number rtypes
made_length rtypes number =
    length-map-range_with_len (λ place. octet_of rtypes (256 * number + 8 * place)) 0 (bitmap_size number rtypes)

block_form : (rtypes : List ℕ) (number : ℕ) → 1 ≤ bitmap_size number rtypes → IsWindowBlock (made_block rtypes number)
block_form rtypes number some =
    let size = bitmap_size number rtypes in
    let octets = window_octets rtypes number size in
    let long = made_length rtypes number in
    let most = size_most number rtypes in
    let last = size_last number rtypes some in
    let place = last.0 % 256 in
    let window = last.2 in
    let ends = last.3 in
    let whole : 256 * number + place ≡ last.0 = omega (arith, window) in
    let says : is_listed octets place ≡ true = listed rtypes number size place (omega (arith, ends))
    ∙ ap (is_among rtypes) whole ∙ member_among rtypes last.0 last.1 in
    let index : place / 8 ≡ length octets - 1 = omega (arith, ends, long) in
    record {
      some = omega (arith, some, long);
      few = omega (arith, most, long);
      last = λ none.
          let bit : get_or octets (place / 8) 0 ≡ 0 = ap (λ k. get_or octets k 0) index ∙ none in
          false≢true (sym (ap (λ octet. bit_at octet (7 - place % 8) == 1) bit
          ∙ ap (λ bit. bit == 1) (bit_at-zero (7 - place % 8))) ∙ says);
    }

with_block : (is_none : Bool) (block : WindowBlock) (number : ℕ) (blocks : List WindowBlock) → block.number ≡ number
    → (is_none ≡ false → IsWindowBlock block) → AscendFrom (number + 1) blocks
    → AscendFrom number ((if is_none then [] else block ∷ []) ++ blocks)
with_block true block number blocks same form ascend = ascend_lower (number + 1) number blocks (omega arith) ascend
with_block false block number blocks same form ascend =
    (omega (arith, same), form refl, subst (λ n. AscendFrom (n + 1) blocks) (sym same) ascend)

not_none : (size : ℕ) → size == 0 ≡ false → 1 ≤ size
not_none zero is = absurd (false≢true (sym is))
not_none (suc size) is = omega arith

some_size : (size : ℕ) → 1 ≤ size → size == 0 ≡ false
some_size size some = false_from_ne_true (size == 0)
    (λ is. let none = (Decides-eqb size 0).0 is in omega (arith, some, none))

ascending : (rtypes : List ℕ) (number count : ℕ)
    → AscendFrom number (flat_map (window_blocks rtypes) (range_with_len number count))
ascending rtypes number zero = tt
ascending rtypes number (suc count) =
    with_block (bitmap_size number rtypes == 0) (made_block rtypes number) number
    (flat_map (window_blocks rtypes) (range_with_len (number + 1) count)) refl
    (λ is. block_form rtypes number (not_none (bitmap_size number rtypes) is)) (ascending rtypes (number + 1) count)

-- the octets are a type bitmap
pub made_bitmap : (rtypes : List ℕ) → IsRtypeBitmap (bitmap_of rtypes)
made_bitmap rtypes = (set_blocks rtypes, (refl, ascending rtypes 0 256))

-- ---- the types of the octets

made_types : (rtypes : List ℕ) → types_of (bitmap_of rtypes) ≡ flat_map block_types (set_blocks rtypes)
made_types rtypes = ap (flat_map block_types) (blocks_are (bitmap_of rtypes) (set_blocks rtypes) refl)

only_block : (is_none : Bool) (block other : WindowBlock) → Member (if is_none then [] else block ∷ []) other
    → block ≡ other
only_block true block other is = elim is [ ]
only_block false block other (inl same) = same
only_block false block other (inr is) = elim is [ ]

the_block : (is_none : Bool) (block : WindowBlock) → is_none ≡ false → Member (if is_none then [] else block ∷ []) block
the_block true block is = absurd (false≢true (sym is))
the_block false block is = inl refl

-- a type of a window's block is one of the given types
in_block : (rtypes : List ℕ) (number rtype : ℕ) → Member (block_types (made_block rtypes number)) rtype
    → Member rtypes rtype
in_block rtypes number rtype is =
    let size = bitmap_size number rtypes in
    let octets = window_octets rtypes number size in
    let at = map_member (λ place. 256 * number + place) (places_from octets 0) rtype is in
    let found = filter_member (is_listed octets) (range_with_len 0 (8 * length octets - 0)) at.0 at.1 in
    let within = (range_member 0 (8 * length octets - 0) at.0 found.0).1 in
    let long = made_length rtypes number in
    let says = sym (listed rtypes number size at.0 (omega (arith, within, long))) ∙ found.1 in
    subst (Member rtypes) at.2 (among_member rtypes (256 * number + at.0) says)

pub said_made : (rtypes : List ℕ) (rtype : ℕ) → Member (types_of (bitmap_of rtypes)) rtype → Member rtypes rtype
said_made rtypes rtype is =
    let block = flat_member block_types (set_blocks rtypes) rtype
    (subst (λ types. Member types rtype) (made_types rtypes) is) in
    let window = flat_member (window_blocks rtypes) (range_with_len 0 256) block.0 block.1 in
    let number = window.0 in
    let same = only_block (bitmap_size number rtypes == 0) (made_block rtypes number) block.0 window.2 in
    in_block rtypes number rtype (subst (λ block. Member (block_types block) rtype) (sym same) block.2)

pub made_says : (rtypes : List ℕ) (rtype : ℕ) → rtype < 65536 → Member rtypes rtype
    → Member (types_of (bitmap_of rtypes)) rtype
made_says rtypes rtype small is =
    let number = rtype / 256 in
    let place = rtype % 256 in
    let size = bitmap_size number rtypes in
    let octets = window_octets rtypes number size in
    let above = size_above number rtypes rtype is refl in
    let long = made_length rtypes number in
    let whole : 256 * number + place ≡ rtype = omega arith in
    let says : is_listed octets place ≡ true = listed rtypes number size place (omega (arith, above))
    ∙ ap (is_among rtypes) whole ∙ member_among rtypes rtype is in
    let at : Member (places_from octets 0) place = member_filter (is_listed octets)
    (range_with_len 0 (8 * length octets - 0)) place says
    (member_range 0 (8 * length octets - 0) place (omega arith) (omega (arith, above, long))) in
    let inside : Member (block_types (made_block rtypes number)) rtype =
    subst (Member (block_types (made_block rtypes number))) whole
    (member_map (λ place. 256 * number + place) (places_from octets 0) place at) in
    let block : Member (set_blocks rtypes) (made_block rtypes number) =
    member_flat (window_blocks rtypes) (range_with_len 0 256) number (made_block rtypes number)
    (member_range 0 256 number (omega arith) (omega (arith, small)))
    (the_block (size == 0) (made_block rtypes number) (some_size size (omega (arith, above)))) in
    subst (λ types. Member types rtype) (sym (made_types rtypes))
    (member_flat block_types (set_blocks rtypes) (made_block rtypes number) rtype block inside)

pub made_members : (rtypes : List ℕ) (rtype : ℕ) → rtype < 65536
    → Contains (types_of (bitmap_of rtypes)) rtype ↔ Contains rtypes rtype
made_members rtypes rtype small = (
  λ is. contained rtypes rtype (said_made rtypes rtype (member (types_of (bitmap_of rtypes)) rtype is)),
  λ is. contained (types_of (bitmap_of rtypes)) rtype (made_says rtypes rtype small (member rtypes rtype is)),
)

-- ---- the octets, as they are appended

-- the number of octets of a part of a block
pub part_length : (old octets rtypes : List ℕ) (number size place : ℕ)
    → octets ≡ old ++ (number ∷ size ∷ window_octets rtypes number place) → length octets ≡ length old + place + 2
part_length old octets rtypes number size place is =
    let window = window_octets rtypes number place in
    let long = ap length is in
    let parts = length-append old (number ∷ size ∷ window) in
    let places = length-map-range_with_len (λ place. octet_of rtypes (256 * number + 8 * place)) 0 place in
    omega (arith, long, parts, places)

-- with one more octet
pub part_more : (old octets new rtypes : List ℕ) (number size place octet : ℕ) → new ≡ octets ++ octet ∷ []
    → octets ≡ old ++ (number ∷ size ∷ window_octets rtypes number place)
    → octet ≡ octet_of rtypes (256 * number + 8 * place)
    → new ≡ old ++ (number ∷ size ∷ window_octets rtypes number (place + 1))
part_more old octets new rtypes number size place octet pushed is same =
    let window = window_octets rtypes number place in
    let wide : place + 0 ≡ place = omega arith in
    pushed ∙ ap (λ octets. octets ++ octet ∷ []) is ∙ append_assoc old (number ∷ size ∷ window) (octet ∷ [])
    ∙ ap (λ octet. old ++ (number ∷ size ∷ (window ++ octet ∷ []))) same
    ∙ ap (λ window. old ++ (number ∷ size ∷ window)) (sym (map-range_with_len_more
    (λ place. octet_of rtypes (256 * number + 8 * place)) 0 place place (omega arith)))

-- all of them are the block
pub block_made : (rtypes : List ℕ) (number size place : ℕ) → size ≡ bitmap_size number rtypes → 1 ≤ size → place ≡ size
    → number ∷ size ∷ window_octets rtypes number place ≡ flat_map block_octets (window_blocks rtypes number)
block_made rtypes number size place is some all =
    let block = made_block rtypes number in
    let whole = bitmap_size number rtypes in
    let none : whole == 0 ≡ false = some_size whole (omega (arith, is, some)) in
    ap (λ place. number ∷ size ∷ window_octets rtypes number place) (all ∙ is)
    ∙ ap (λ size. number ∷ size ∷ block.bitmap) (is ∙ sym (made_length rtypes number))
    ∙ ap (λ bitmap. number ∷ length block.bitmap ∷ bitmap) (sym (append-nil block.bitmap))
    ∙ sym (ap (λ b. flat_map block_octets (if b then [] else block ∷ [])) none)

range_more : (a n : ℕ) → range_with_len a (suc n) ≡ range_with_len a n ++ (a + n) ∷ []
range_more a zero = ap (λ a. a ∷ []) (omega arith)
range_more a (suc n) =
    ap (λ more. a ∷ more) (range_more (a + 1) n)
    ∙ ap (λ last. a ∷ (range_with_len (a + 1) n ++ last ∷ [])) (omega arith)

-- with the block of one more window
blocks_more : (rtypes : List ℕ) (n : ℕ)
    → flat_map block_octets (flat_map (window_blocks rtypes) (range_with_len 0 (n + 1)))
    ≡ flat_map block_octets (flat_map (window_blocks rtypes) (range_with_len 0 n))
    ++ flat_map block_octets (window_blocks rtypes n)
blocks_more rtypes n =
    let next : n + 1 ≡ suc n = omega arith in
    let last : 0 + n ≡ n = omega arith in
    let windows = range_with_len 0 n in
    let blocks = flat_map (window_blocks rtypes) windows in
    ap (λ n. flat_map block_octets (flat_map (window_blocks rtypes) (range_with_len 0 n))) next
    ∙ ap (λ numbers. flat_map block_octets (flat_map (window_blocks rtypes) numbers))
    (range_more 0 n ∙ ap (λ last. windows ++ last ∷ []) last)
    ∙ ap (flat_map block_octets) (flat_map-append (window_blocks rtypes) windows (n ∷ [])
    ∙ ap (λ more. blocks ++ more) (append-nil (window_blocks rtypes n)))
    ∙ flat_map-append block_octets blocks (window_blocks rtypes n)

pub blocks_pushed : (rtypes : List ℕ) (n : ℕ) (octets new : List ℕ)
    → new ≡ octets ++ flat_map block_octets (window_blocks rtypes n)
    → octets ≡ flat_map block_octets (flat_map (window_blocks rtypes) (range_with_len 0 n))
    → new ≡ flat_map block_octets (flat_map (window_blocks rtypes) (range_with_len 0 (n + 1)))
blocks_pushed rtypes n octets new pushed is = pushed
    ∙ ap (λ octets. octets ++ flat_map block_octets (window_blocks rtypes n)) is ∙ sym (blocks_more rtypes n)
