-- The octets of MP_REACH_NLRI before its prefixes.
use Rattle.std.proofs.Common.{◌≡◌, ℕ, suc, ◌+◌, ◌-◌, ◌≤◌, List, [], ◌∷◌, ◌++◌, length, take, drop, sym, ap, ◌∙◌}
use Rattle.std.proofs.Common.{arith, append-nil, replicate}
use Rattle.std.proofs.Math.Seq.{take-append-add, take-append_seam, drop-append_seam, drop-length}
use Rattle.std.proofs.lemmas.List.{drop-replicate}
use borrow.Rule.Slice.PartMut.{put_mid}

-- 16 octets written over the second half of 32
pub second_put : (a z b : List ℕ) → length a ≡ 16 → length z ≡ 16 → put_mid 16 16 (a ++ z) b ≡ a ++ b
second_put a z b long many =
    let front : take 16 (a ++ z) ≡ a = ap (λ k. take k (a ++ z)) (sym long) ∙ take-append_seam a z in
    let rest : drop 16 (a ++ z) ≡ z = ap (λ k. drop k (a ++ z)) (sym long) ∙ drop-append_seam a z in
    let none : drop 16 z ≡ [] = ap (λ k. drop k z) (sym many) ∙ drop-length z in
    ap (λ x. x ++ (b ++ drop 16 (drop 16 (a ++ z)))) front ∙ ap (λ x. a ++ (b ++ drop 16 x)) rest
    ∙ ap (λ x. a ++ (b ++ x)) none ∙ ap (λ x. a ++ x) (append-nil b)

-- octets after four, with a 0 after them
pub front_put : (w x y z k : ℕ) (octets : List ℕ) → length octets ≤ 32 → k ≡ length octets
    → take (5 + length octets) (put_mid 4 k (w ∷ x ∷ y ∷ z ∷ replicate 33 0) octets)
    ≡ w ∷ x ∷ y ∷ z ∷ (octets ++ 0 ∷ [])
front_put w x y z k octets few same =
    let zeros : List ℕ = replicate 33 0 in
    let offset : 5 + length octets ≡ suc (suc (suc (suc (length octets + 1)))) = omega arith in
    let left : 33 - k ≡ suc (32 - k) = omega (arith, few, same) in
    let end : take 1 (drop k zeros) ≡ 0 ∷ [] =
    ap (take 1) (drop-replicate k 33 0 ∙ ap (λ n. replicate n 0) left) in
    ap (λ n. take n (w ∷ x ∷ y ∷ z ∷ (octets ++ drop k zeros))) offset
    ∙ ap (λ o. w ∷ x ∷ y ∷ z ∷ o) (take-append-add octets (drop k zeros) 1 ∙ ap (λ o. octets ++ o) end)
