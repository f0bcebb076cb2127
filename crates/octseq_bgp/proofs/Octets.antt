-- The octets of heads and of prefixes.
use Rattle.std.proofs.Common.{◌≡◌, ℕ, zero, suc, ◌+◌, ◌-◌, ◌/◌, ◌%◌, ◌^◌, ◌<◌, ◌≤◌, false, List, [], ◌∷◌, ◌++◌}
use Rattle.std.proofs.Common.{length, take, drop, set, eq-eqb, refl, sym, ap, ◌∙◌, arith}
use Rattle.std.proofs.Common.{append-nil}
use borrow.Rule.Slice.PartMut.{put_mid}
use Rattle.std.proofs.Math.Seq.{drop-append_seam, take-append-add}
use Rattle.std.proofs.lemmas.Bool.Decides.{nat_tests}
use Rattle.std.specs.Prelude.{nat_eq, if◌then◌else◌, slice_index, slice_range}
use Rattle.octseq.specs.Integer.{octets_be}
use Rattle.octseq_bgp.specs.PrefixValue.{bits_after, cleared, address_from}
use Rattle.octseq_bgp.specs.Written.{head_octets, length_width}

-- an octet is its own list of octets
pub one_octet : (n : ℕ) → n < 256 → octets_be 1 n ≡ n ∷ []
unfolding octets_be
one_octet n small = let same : n / 256 ^ 0 % 256 ≡ n = omega (arith, small) in ap (λ octet. octet ∷ []) same

not_equal : (m n : ℕ) → ¬ (m ≡ n) → nat_eq m n ≡ false
not_equal m n apart = grind (arith, nat_tests)

-- the number of octets of a length, by the flag
pub width_extended : (flags : ℕ) → flags / 16 % 2 ≡ 1 → length_width flags ≡ 2
width_extended flags is = ap (λ b. if b then 2 else 1) (eq-eqb (flags / 16 % 2) 1 is)

pub width_short : (flags : ℕ) → ¬ (flags / 16 % 2 ≡ 1) → length_width flags ≡ 1
width_short flags is = ap (λ b. if b then 2 else 1) (not_equal (flags / 16 % 2) 1 is)

-- what comes before the octets of an attribute, by the flag
pub head_extended : (flags kind n : ℕ) → flags / 16 % 2 ≡ 1 → flags < 256 → kind < 256
    → head_octets flags kind n ≡ flags ∷ kind ∷ octets_be 2 n
head_extended flags kind n is few small =
    ap (λ k. octets_be 1 flags ++ (octets_be 1 kind ++ octets_be k n)) (width_extended flags is)
    ∙ ap (λ f. f ++ (octets_be 1 kind ++ octets_be 2 n)) (one_octet flags few)
    ∙ ap (λ k. flags ∷ (k ++ octets_be 2 n)) (one_octet kind small)

pub head_short : (flags kind n : ℕ) → ¬ (flags / 16 % 2 ≡ 1) → flags < 256 → kind < 256 → n < 256
    → head_octets flags kind n ≡ flags ∷ kind ∷ n ∷ []
head_short flags kind n is few small less =
    ap (λ k. octets_be 1 flags ++ (octets_be 1 kind ++ octets_be k n)) (width_short flags is)
    ∙ ap (λ f. f ++ (octets_be 1 kind ++ octets_be 1 n)) (one_octet flags few)
    ∙ ap (λ k. flags ∷ (k ++ octets_be 1 n)) (one_octet kind small)
    ∙ ap (λ o. flags ∷ kind ∷ o) (one_octet n less)

-- ---- the bits after a prefix

-- the first octets of an address
pub address_first : (n m i bits : ℕ) (octets : List ℕ) → n ≤ m
    → take n (address_from m i bits octets) ≡ address_from n i bits octets
address_first zero m i bits octets few = refl
address_first (suc n) zero i bits octets few = absurd (omega (arith, few))
address_first (suc n) (suc m) i bits octets few =
    ap (λ o. cleared (bits_after bits i) (slice_index octets i) ∷ o)
    (address_first n m (i + 1) bits octets (omega (arith, few)))

-- and the first of four, before zeros
pub four_first : (n bits : ℕ) (four octets : List ℕ) → four ≡ address_from 4 0 bits octets → n ≤ 4
    → take n (slice_index four 0 ∷ slice_index four 1 ∷ slice_index four 2 ∷ slice_index four 3
    ∷ 0 ∷ 0 ∷ 0 ∷ 0 ∷ 0 ∷ 0 ∷ 0 ∷ 0 ∷ 0 ∷ 0 ∷ 0 ∷ 0 ∷ [])
    ≡ address_from n 0 bits octets
four_first zero bits four octets is few = refl
four_first (suc zero) bits four octets is few = ap (λ f. slice_index f 0 ∷ []) is
four_first (suc (suc zero)) bits four octets is few = ap (λ f. slice_index f 0 ∷ slice_index f 1 ∷ []) is
four_first (suc (suc (suc zero))) bits four octets is few =
    ap (λ f. slice_index f 0 ∷ slice_index f 1 ∷ slice_index f 2 ∷ []) is
four_first (suc (suc (suc (suc zero)))) bits four octets is few =
    ap (λ f. slice_index f 0 ∷ slice_index f 1 ∷ slice_index f 2 ∷ slice_index f 3 ∷ []) is
four_first (suc (suc (suc (suc (suc n))))) bits four octets is few = absurd (omega (arith, few))

-- ---- the octets of a prefix, after a path id

pub made : (id address : List ℕ) (bits : ℕ) → length id ≡ 4
    → put_mid 5 16 (set (id ++ 0 ∷ 0 ∷ 0 ∷ 0 ∷ 0 ∷ 0 ∷ 0 ∷ 0 ∷ 0 ∷ 0 ∷ 0 ∷ 0 ∷ 0 ∷ 0 ∷ 0 ∷ 0 ∷ 0 ∷ []) 4 bits) address
    ≡ id ++ bits ∷ address
made (a ∷ b ∷ c ∷ d ∷ []) address bits long = ap (λ o. a ∷ b ∷ c ∷ d ∷ bits ∷ o) (append-nil address)
made [] address bits long = absurd (omega (arith, long))
made (a ∷ []) address bits long = absurd (omega (arith, long))
made (a ∷ b ∷ []) address bits long = absurd (omega (arith, long))
made (a ∷ b ∷ c ∷ []) address bits long = absurd (omega (arith, long))
made (a ∷ b ∷ c ∷ d ∷ e ∷ rest) address bits long = absurd (omega (arith, long))

-- with the path id, and without
pub with_id : (id address : List ℕ) (bits n : ℕ) → length id ≡ 4
    → slice_range (id ++ bits ∷ address) 0 (5 + n) ≡ id ++ bits ∷ take n address
with_id id address bits n long =
    let offset : 5 + n - 0 ≡ length id + suc n = omega (arith, long) in
    ap (λ k. take k (id ++ bits ∷ address)) offset ∙ take-append-add id (bits ∷ address) (suc n)

pub without_id : (id address : List ℕ) (bits n : ℕ) → length id ≡ 4
    → slice_range (id ++ bits ∷ address) 4 (5 + n) ≡ bits ∷ take n address
without_id id address bits n long =
    let offset : 5 + n - 4 ≡ suc n = omega arith in
    ap (λ k. take k (drop 4 (id ++ bits ∷ address))) offset
    ∙ ap (λ k. take (suc n) (drop k (id ++ bits ∷ address))) (sym long)
    ∙ ap (take (suc n)) (drop-append_seam id (bits ∷ address))
