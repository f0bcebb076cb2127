-- The mask of a lane has a bit for each octet that is 0x80 or more. So it is 0 if all are ASCII, and even if the first
-- one is.
use Rattle.std.proofs.Common.{◌≡◌, ◌≢◌, ℕ, ◌+◌, ◌%◌, ◌^◌, ◌<◌, ◌≤◌, ◌-◌, ◌↔◌, ⊎_elim, subst, not, cond, leb, List, []}
use Rattle.std.proofs.Common.{◌∷◌, map, length, replicate, take, drop, get_or, length-take, length-drop, refl, ap, sym}
use Rattle.std.proofs.Common.{◌∙◌, arith, w8}
use Rattle.std.proofs.lemmas.Bool.Decides.{nat_tests}
use Rattle.std.proofs.lemmas.List.Elements.{All-nil, All-cons, All-head, All-tail, All-get_or, All-from_get_or}
use Rattle.std.proofs.lemmas.Simd.{mask_l-mod, tops_compared, zip2_splat_left, get_or-chunk, trailing_mask_l}
use Rattle.std.proofs.lemmas.Simd.{length-chunk}
use Rattle.std.proofs.lemmas.List.{length-map, get_or-take, get_or-drop}
use Rattle.std.proofs.lemmas.List.Sums.{prefix_len_passes, prefix_len_stops}
use Rattle.std.specs.List.{All, prefix_len}
use Rattle.std.proofs.lemmas.Bool.{cases_lt}
use Rattle.std.specs.Int.Count.{count_trailing_zeros}
use lib.Lanes.{mask_l, top, zip2}

-- if the mask is 0 every octet is ASCII, and if every octet is, the mask is 0

none_high : (ys : List ℕ) → mask_l (map (leb 128) ys) ≡ 0 → All (λ o. o < 128) ys
none_high [] h = All-nil (λ o. o < 128)
none_high (y ∷ ys) h =
    All-cons (λ o. o < 128) y ys (grind (arith, nat_tests)) (none_high ys (grind (arith, nat_tests)))

high_none : (ys : List ℕ) → All (λ o. o < 128) ys → mask_l (map (leb 128) ys) ≡ 0
high_none [] h = refl
high_none (y ∷ ys) h =
    let low : y < 128 = All-head (λ o. o < 128) y ys h in
    grind (arith, nat_tests, high_none ys (All-tail (λ o. o < 128) y ys h))

-- the mask that the code computes, by comparing each octet of the lane with 0x80
pub mask_is : (n : ℕ) (ys : List ℕ) → length ys ≡ n → n ≤ 64
    → mask_l (map (top 7) (zip2 (λ (a b : ℕ). cond (leb a b) 255 0) (replicate n 128) ys)) % 2 ^ 64
    ≡ mask_l (map (leb 128) ys)
mask_is n ys long few =
    ap (λ l. mask_l l % 2 ^ 64) (tops_compared w8 leb (replicate n 128) ys ∙ zip2_splat_left leb 128 n ys long)
    ∙ mask_l-mod (map (leb 128) ys) 64 (omega (arith, length-map ys (leb 128)))

-- what the code tests: the mask is 0 exactly if the lane is ASCII
pub lane_none : (n : ℕ) (ys : List ℕ) → length ys ≡ n → n ≤ 64
    → (mask_l (map (top 7) (zip2 (λ (a b : ℕ). cond (leb a b) 255 0) (replicate n 128) ys)) % 2 ^ 64 ≡ 0)
    ↔ All (λ o. o < 128) ys
lane_none n ys long few =
    (λ h. none_high ys (sym (mask_is n ys long few) ∙ h), λ h. mask_is n ys long few ∙ high_none ys h)

-- the octets before the lowest bit of a lane's mask are below 80, and the one at that bit isn't
pub record IsBeforeHigh (x : List ℕ) (n : ℕ) : Type 0 where
  pub few : n < 16
  pub low : All (λ o. o < 128) (take n x)
  pub high : 128 ≤ get_or x n 0

-- if the mask of the first lane isn't 0, its lowest bit is for the first octet of 80 or more
pub before_high : (x : List ℕ) (high : ℕ) → 16 ≤ length x → high ≡ mask_l (map (leb 128) (take 16 x)) → high ≢ 0
    → IsBeforeHigh x (count_trailing_zeros 64 high)
before_high x high room same some =
    let ys : List ℕ = take 16 x in
    let long : length ys ≡ 16 = length-take 16 x ∙ omega arith in
    let n : ℕ = prefix_len (λ o. not (leb 128 o)) ys in
    let found : count_trailing_zeros 64 high ≡ n =
    ap (count_trailing_zeros 64) same ∙ trailing_mask_l (leb 128) 64 ys (omega arith) (omega arith) in
    let below : (i : ℕ) → i < n → get_or ys i 0 < 128 =
    λ i h. let pass = prefix_len_passes (λ o. not (leb 128 o)) ys i 0 h in grind (arith, nat_tests) in
    let few : n < length ys =
    ⊎_elim
    (λ less. less)
    (λ all. absurd (some (same ∙ high_none ys (All-from_get_or (λ o. o < 128) ys 0 (λ i h. below i (omega arith))))))
    (cases_lt n (length ys)) in
    let stop = prefix_len_stops (λ o. not (leb 128 o)) ys 0 few in
    subst (IsBeforeHigh x) (sym found)
    (record {
      few = omega arith;
      low = All-from_get_or (λ o. o < 128) (take n x) 0 (λ i h.
          let less : i < n = omega (arith, length-take n x) in
          subst (λ o. o < 128) (get_or-take 16 x i 0 (omega arith) ∙ sym (get_or-take n x i 0 less)) (below i less));
      high = subst (λ o. 128 ≤ o) (get_or-take 16 x n 0 (omega arith)) (grind (arith, nat_tests));
    })

-- octets whose first n and last n are below 80, if those overlap or meet
pub ends_low : (x : List ℕ) (from n : ℕ) → from + n ≤ length x → length x ≤ from + (n + n)
    → All (λ o. o < 128) (take n (drop from x)) → All (λ o. o < 128) (take n (drop (length x - n) x))
    → All (λ o. o < 128) (drop from x)
ends_low x from n room few first last =
    All-from_get_or (λ o. o < 128) (drop from x) 0 (λ i h.
    let in_x : from + i < length x = omega (arith, length-drop from x) in
    let k : ℕ = from + i - (length x - n) in
    ⊎_elim
    (λ less. rw (get_or-drop from x i 0, ← get_or-chunk from n x i 0 less)
    (All-get_or (λ o. o < 128) (take n (drop from x)) i 0 (omega (arith, length-chunk from n x room)) first))
    (λ more.
    let same : (length x - n) + k ≡ from + i = omega arith in
    rw (get_or-drop from x i 0, ← same, ← get_or-chunk (length x - n) n x k 0 (omega arith))
    (All-get_or (λ o. o < 128) (take n (drop (length x - n) x)) k 0
    (omega (arith, length-chunk (length x - n) n x (omega arith))) last))
    (cases_lt i n))
