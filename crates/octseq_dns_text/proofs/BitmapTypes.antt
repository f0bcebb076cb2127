-- The types of a bitmap are different numbers of 16 bits, and it is their bitmap.
use Rattle.std.proofs.Common.{◌≡◌, ℕ, zero, suc, ◌+◌, ◌*◌, ◌<◌, ◌≤◌, ◌==◌, Bool, true, false, if◌then◌else◌, inl, inr}
use Rattle.std.proofs.Common.{List, [], ◌∷◌, ◌++◌, length, map, get_or, refl, sym, ap, ◌∙◌, subst, arith}
use Rattle.std.proofs.lemmas.Bool.{ne_eqb}
use Rattle.std.proofs.lemmas.List.Elements.{All-from_recursion, All-get_or}
use Rattle.std.proofs.lemmas.List.FromFn.{length-map-range_with_len}
use Rattle.std.proofs.lemmas.List.Kept.{AllPairs-from_increasing}
use Rattle.std.specs.List.{AllByRecursion, AllPairs, IsDistinct, flat_map, range_with_len}
use Rattle.std.specs.Prelude.{nat_eq}
use Rattle.octseq.proofs.WrittenBack.{AreOctets}
use Rattle.octseq_dns_data.proofs.Members.{Member, member_cases}
use Rattle.octseq_dns_data.proofs.RtypeBitmapsMade.{bits_few, made_bitmap, made_says, said_made, size_most}
use Rattle.octseq_dns_data.proofs.RtypeOrder.{types_ascend, types_of_blocks}
use Rattle.octseq_dns_data.specs.RtypeBitmap.{AscendFrom, IsRtypeBitmap, WindowBlock, block_octets, block_types}
use Rattle.octseq_dns_data.specs.RtypeBitmap.{types_of}
use Rattle.octseq_dns_data.specs.RtypeBitmapMade.{bitmap_of, bitmap_size, bits_number, is_among, octet_of}
use Rattle.octseq_dns_data.specs.RtypeBitmapMade.{window_blocks, window_octets}
use Rattle.octseq_dns_text.proofs.Plain.{all_append}
use Rattle.octseq_dns_text.proofs.SameBitmaps.{AllBounded, Within, blocks_same, in_window}

-- ---- octets

octets_left : (xs ys : List ℕ) → AreOctets (xs ++ ys) → AreOctets xs
octets_left [] ys each = tt
octets_left (x ∷ xs) ys each = (each.0, octets_left xs ys each.1)

octets_right : (xs ys : List ℕ) → AreOctets (xs ++ ys) → AreOctets ys
octets_right [] ys each = each
octets_right (x ∷ xs) ys each = octets_right xs ys each.1

-- the bitmaps of blocks are octets, and so are the numbers
bounded : (blocks : List WindowBlock) → AreOctets (flat_map block_octets blocks) → AllBounded blocks
bounded [] each = tt
bounded (block ∷ blocks) each =
    let front = octets_left (block_octets block) (flat_map block_octets blocks) each in
    let after = octets_right (block_octets block) (flat_map block_octets blocks) each in
    let all = All-from_recursion (λ octet. octet < 256) block.bitmap front.1.1 in
    (λ i few. All-get_or (λ octet. octet < 256) block.bitmap i 0 few all, bounded blocks after)

-- so the types of blocks are of 16 bits
few_types : (least : ℕ) (blocks : List WindowBlock) → AscendFrom least blocks
    → AreOctets (flat_map block_octets blocks) → (rtype : ℕ) → Member (flat_map block_types blocks) rtype
    → rtype < 65536
few_types least [] ascend each rtype is = elim is [ ]
few_types least (block ∷ blocks) ascend each rtype is =
    let front = octets_left (block_octets block) (flat_map block_octets blocks) each in
    let after = octets_right (block_octets block) (flat_map block_octets blocks) each in
    elim (member_cases (block_types block) (flat_map block_types blocks) rtype is) [
      | inl here ↦
          let high = (in_window block rtype ascend.1 here).1 in
          let number = front.0 in
          omega (arith, high, number)
      | inr there ↦ few_types (block.number + 1) blocks ascend.2 after rtype there
    ]

-- ---- the octets of a set

mapped : (f : ℕ → ℕ) → ((x : ℕ) → f x < 256) → (xs : List ℕ) → AreOctets (map f xs)
mapped f small [] = tt
mapped f small (x ∷ xs) = (small x, mapped f small xs)

next_bit : (n : ℕ) (b : Bool) → n < 128 → 2 * n + (if b then 1 else 0) < 256
next_bit n true few = omega (arith, few)
next_bit n false few = omega (arith, few)

small_octet : (rtypes : List ℕ) (rtype : ℕ) → octet_of rtypes rtype < 256
small_octet rtypes rtype =
    next_bit (bits_number (is_among rtypes) rtype 7) (is_among rtypes (rtype + 7))
    (bits_few (is_among rtypes) rtype 7 (omega arith))

with_octets : (none : Bool) (block : WindowBlock) (blocks : List WindowBlock) → AreOctets (block_octets block)
    → AreOctets (flat_map block_octets blocks)
    → AreOctets (flat_map block_octets ((if none then [] else block ∷ []) ++ blocks))
with_octets true block blocks front after = after
with_octets false block blocks front after =
    all_append (λ octet. octet < 256) (block_octets block) (flat_map block_octets blocks) front after

set_octets : (rtypes : List ℕ) (number count : ℕ) → number + count ≤ 256
    → AreOctets (flat_map block_octets (flat_map (window_blocks rtypes) (range_with_len number count)))
set_octets rtypes number zero few = tt
set_octets rtypes number (suc count) few =
    let size = bitmap_size number rtypes in
    let octet = λ (place : ℕ). octet_of rtypes (256 * number + 8 * place) in
    let long = length-map-range_with_len octet 0 size in
    let most = size_most number rtypes in
    let small : length (window_octets rtypes number size) < 256 = omega (arith, long, most) in
    with_octets (size == 0) (record { number = number; bitmap = window_octets rtypes number size })
    (flat_map (window_blocks rtypes) (range_with_len (number + 1) count)) (
      omega (arith, few),
      (
        small,
        mapped octet (λ place. small_octet rtypes (256 * number + 8 * place)) (range_with_len 0 size),
      ),
    )
    (set_octets rtypes (number + 1) count (omega (arith, few)))

-- ---- the types

each_member : (P : ℕ → Type 0) (xs : List ℕ) → ((x : ℕ) → Member xs x → P x) → AllByRecursion P xs
each_member P [] all = tt
each_member P (x ∷ xs) all = (all x (inl refl), each_member P xs (λ y is. all y (inr is)))

member_few : (octets : List ℕ) → AreOctets octets → (is : IsRtypeBitmap octets) → (rtype : ℕ)
    → Member (types_of octets) rtype → rtype < 65536
member_few octets each (blocks, (spelled, ascend)) rtype is =
    few_types 0 blocks ascend (subst AreOctets spelled each) rtype
    (subst (λ l. Member l rtype) (types_of_blocks octets blocks (spelled, ascend)) is)

pub types_few : (octets : List ℕ) → AreOctets octets → IsRtypeBitmap octets
    → AllByRecursion (λ rtype. rtype < 65536) (types_of octets)
types_few octets each is = each_member (λ rtype. rtype < 65536) (types_of octets) (member_few octets each is)

apart : (x : ℕ) (xs : List ℕ) → ((j : ℕ) → j < length xs → x < get_or xs j 0)
    → AllByRecursion (λ y. nat_eq x y ≡ false) xs
apart x [] all = tt
apart x (y ∷ xs) all =
    let first = all 0 (omega arith) in
    (ne_eqb x y (λ e. omega (arith, first, e)), apart x xs (λ j few. all (suc j) (omega (arith, few))))

distinct : (xs : List ℕ) → AllPairs (λ x y. x < y) xs → IsDistinct nat_eq xs
unfolding IsDistinct
distinct [] pairs = tt
distinct (x ∷ xs) pairs = (
  apart x xs (λ j few. pairs 0 (suc j) 0 (omega arith) (omega (arith, few))),
  distinct xs (λ i j d less few. pairs (suc i) (suc j) d (omega (arith, less)) (omega (arith, few))),
)

pub types_distinct : (octets : List ℕ) → IsRtypeBitmap octets → IsDistinct nat_eq (types_of octets)
types_distinct octets is =
    distinct (types_of octets) (AllPairs-from_increasing (types_of octets) (types_ascend octets is))

-- bitmaps of the same types are the same
same_types : (octets other : List ℕ) → AreOctets octets → AreOctets other → IsRtypeBitmap octets → IsRtypeBitmap other
    → Within (types_of octets) (types_of other) → Within (types_of other) (types_of octets) → octets ≡ other
same_types octets other each too (blocks, (spelled, ascend)) (others, (also, on)) there back =
    let one = types_of_blocks octets blocks (spelled, ascend) in
    let two = types_of_blocks other others (also, on) in
    let within = subst (λ l. Within l (types_of other)) one there in
    let again = subst (λ l. Within l (types_of octets)) two back in
    let same = blocks_same 0 blocks others ascend on (bounded blocks (subst AreOctets spelled each))
    (bounded others (subst AreOctets also too)) (subst (Within (flat_map block_types blocks)) two within)
    (subst (Within (flat_map block_types others)) one again) in
    spelled ∙ ap (flat_map block_octets) same ∙ sym also

-- and a bitmap is that of its types
pub bitmap_again : (octets : List ℕ) → AreOctets octets → IsRtypeBitmap octets → bitmap_of (types_of octets) ≡ octets
bitmap_again octets each is =
    let rtypes = types_of octets in
    let small = member_few octets each is in
    same_types (bitmap_of rtypes) octets (set_octets rtypes 0 256 (omega arith)) each (made_bitmap rtypes) is
    (said_made rtypes) (λ rtype among. made_says rtypes rtype (small rtype among) among)
