-- Numbers of up to 8 octets, as a part of the 8 octets of std's numbers.
use Rattle.std.proofs.Common.{◌≡◌, ℕ, zero, suc, ◌+◌, ◌-◌, ◌*◌, ◌/◌, ◌^◌, ◌<◌, ◌≤◌, List, [], ◌∷◌, ◌++◌}
use Rattle.std.proofs.Common.{length, reverse, take, drop, refl, sym, ap, ◌∙◌, arith, append_assoc, append-nil}
use Rattle.std.proofs.Common.{length-append, length-drop, length-take}
use Rattle.std.proofs.Math.ListN.{replicate}
use Rattle.std.proofs.Math.Nat.{pow-suc, pow-le-pow_right, lt-div-mul-add, one-le-pow, mul-le-mul_right}
use Rattle.std.proofs.Math.Nat.{div-mul-le_self}
use Rattle.std.proofs.Math.Seq.{take-append_seam}
use Rattle.std.proofs.lemmas.List.{reverse-append, length-reverse, take-append-drop, take_all, drop_all}
use Rattle.std.specs.Prelude.{◌%◌, slice_range}
use Rattle.std.proofs.lemmas.Nat.{pow-add, pow_below, mod-mul-add}
use Rattle.std.specs.Int.{w64, to_be_bytes, to_le_bytes, from_be_bytes, from_le_bytes}
use Rattle.octseq.specs.Integer.{be, le, octets_be, octets_le}
use Rattle.octseq.proofs.Written.{be_cons, le_snoc, length_be, made_be_8, made_le_8}
use Rattle.octseq.proofs.Values.{be_8, le_8}

-- ---- zeros as the most significant octets

be_zeros : (m n : ℕ) (xs : List ℕ) → be (take m (replicate n 0) ++ xs) ≡ be xs
be_zeros zero n xs = refl
be_zeros (suc m) zero xs = refl
be_zeros (suc m) (suc n) xs =
    be_cons 0 (take m (replicate n 0) ++ xs) ∙ (let more = be_zeros m n xs in omega (arith, more))

le_ends : (xs : List ℕ) (n : ℕ) → le (xs ++ replicate n 0) ≡ le xs
le_ends xs zero = ap le (append-nil xs)
le_ends xs (suc n) =
    ap le (sym (append_assoc xs (0 ∷ []) (replicate n 0))) ∙ le_ends (xs ++ 0 ∷ []) n ∙ le_snoc xs 0 ∙ omega arith

le_zeros : (xs : List ℕ) (m n : ℕ) → le (xs ++ drop m (replicate n 0)) ≡ le xs
le_zeros xs zero n = le_ends xs n
le_zeros xs (suc m) zero = ap le (append-nil xs)
le_zeros xs (suc m) (suc n) = le_zeros xs m n

-- octets written over the last of 8 zeros have their big-endian value
pub wide_be : (xs : List ℕ) → length xs ≤ 8 → from_be_bytes w64 (take (8 - length xs) (replicate 8 0)
    ++ (xs ++ drop (8 - (8 - length xs)) (drop (8 - length xs) (replicate 8 0)))) ≡ be xs
wide_be xs few =
    let eight_zeros : List ℕ = replicate 8 0 in
    let m = 8 - length xs in
    let first = length-take m eight_zeros in
    let after = length-drop m eight_zeros in
    let none : drop (8 - m) (drop m eight_zeros) ≡ [] = drop_all (8 - m) (drop m eight_zeros) (omega (arith, after)) in
    let many : length (take m eight_zeros ++ xs) ≡ 8 =
    length-append (take m eight_zeros) xs ∙ omega (arith, first, few) in
    ap (λ more. from_be_bytes w64 (take m eight_zeros ++ (xs ++ more))) none
    ∙ ap (λ xs. from_be_bytes w64 (take m eight_zeros ++ xs)) (append-nil xs)
    ∙ be_8 (take m eight_zeros ++ xs) many ∙ be_zeros m 8 xs

-- octets before zeros, 8 together, have their little-endian value
pub wide_le : (xs : List ℕ) → length xs ≤ 8 → from_le_bytes w64 (xs ++ drop (length xs) (replicate 8 0)) ≡ le xs
wide_le xs few =
    let eight_zeros : List ℕ = replicate 8 0 in
    let zeros = drop (length xs) (replicate 8 0) in
    let last = length-drop (length xs) eight_zeros in
    let many : length (xs ++ zeros) ≡ 8 = length-append xs zeros ∙ omega (arith, last, few) in
    le_8 (xs ++ zeros) many ∙ le_zeros xs (length xs) 8

-- ---- the octets of the lowest weights

lowest : (j m k n : ℕ) → m ≡ j + k → drop j (octets_be m n) ≡ octets_be k n
unfolding octets_be
lowest zero m k n all = let same : m ≡ k = omega (arith, all) in ap (λ k. octets_be k n) same
lowest (suc j) zero k n all = absurd (omega (arith, all))
lowest (suc j) (suc m) k n all = lowest j m k n (omega (arith, all))

-- the last k of the 8 octets of a number, big-endian, are its k octets
pub last_be : (k n : ℕ) → k ≤ 8 → slice_range (to_be_bytes w64 n) (8 - k) 8 ≡ octets_be k n
last_be k n few =
    let low : drop (8 - k) (to_be_bytes w64 n) ≡ octets_be k n =
    ap (drop (8 - k)) (made_be_8 n) ∙ lowest (8 - k) 8 k n (omega (arith, few)) in
    let long = length_be k n in
    ap (take (8 - (8 - k))) low ∙ take_all (8 - (8 - k)) (octets_be k n) (omega (arith, long, few))

-- the first k of its 8 octets, little-endian
pub first_le : (k n : ℕ) → k ≤ 8 → take k (to_le_bytes w64 n) ≡ octets_le k n
unfolding octets_le
first_le k n few =
    let all = octets_be 8 n in
    let high = take (8 - k) all in
    let low : drop (8 - k) all ≡ octets_be k n = lowest (8 - k) 8 k n (omega (arith, few)) in
    let turned : reverse all ≡ reverse (octets_be k n) ++ reverse high =
    ap reverse (sym (take-append-drop (8 - k) all)) ∙ reverse-append high (drop (8 - k) all)
    ∙ ap (λ low. reverse low ++ reverse high) low in
    let long : length (reverse (octets_be k n)) ≡ k = length-reverse (octets_be k n) ∙ length_be k n in
    ap (take k) (made_le_8 n ∙ turned) ∙ ap (λ m. take m (reverse (octets_be k n) ++ reverse high)) (sym long)
    ∙ take-append_seam (reverse (octets_be k n)) (reverse high)

-- ---- which numbers fit

bits_of : (k : ℕ) → 2 ^ (8 * k) ≡ 256 ^ k
bits_of zero = refl
bits_of (suc k) =
    let before = bits_of k in
    let more = pow-suc 256 k in
    let apart : 8 * suc k ≡ 8 * k + 8 = omega arith in
    ap (λ e. 2 ^ e) apart ∙ pow-add 2 (8 * k) 8 ∙ omega (arith, before, more)

-- a number without bits above k octets
pub none_above : (n k : ℕ) → n / 2 ^ (8 * k) ≡ 0 → n < 256 ^ k
none_above n k none =
    let size = 2 ^ (8 * k) in
    let below : n < n / size * size + size = lt-div-mul-add (one-le-pow (8 * k) 2 (omega arith)) in
    let zero = ap (λ m. m * size) none in
    let same = bits_of k in
    omega (arith, below, zero, same)

-- a number with some
pub some_above : (n k : ℕ) → 0 < n / 2 ^ (8 * k) → 256 ^ k ≤ n
some_above n k some =
    let size = 2 ^ (8 * k) in
    let one : 1 * size ≤ n / size * size = mul-le-mul_right size some in
    let all : n / size * size ≤ n = div-mul-le_self n size in
    let same = bits_of k in
    omega (arith, one, all, same)

-- a number of 64 bits
pub fits_eight : (n k : ℕ) → n < 2 ^ 64 → k ≡ 8 → n < 256 ^ k
fits_eight n k small eight = let same = ap (λ k. 256 ^ k) eight in omega (arith, small, same)

pub ruleset fitting = (none_above, some_above, fits_eight)

-- what the lowest octets of a number say
pub lowest_octets : (n w k : ℕ) → w ≡ k → w < 8 → n % (1 * 2 ^ (8 * w) % 18446744073709551616) ≡ n % 256 ^ k
lowest_octets n w k same few =
    let size = 2 ^ (8 * w) in
    let small : size < 2 ^ 64 = pow_below (8 * w) 64 (omega (arith, few)) in
    let all : 1 * size ≡ 0 * 18446744073709551616 + size = omega arith in
    let bits : 1 * size % 18446744073709551616 ≡ 256 ^ k = ap (λ m. m % 18446744073709551616) all
    ∙ mod-mul-add 0 18446744073709551616 size (omega (arith, small)) ∙ bits_of w ∙ ap (λ k. 256 ^ k) same in
    ap (λ m. n % m) bits

pub all_octets : (n k : ℕ) → n < 2 ^ 64 → 8 ≤ k → n % 256 ^ k ≡ n
all_octets n k small wide =
    let more : 256 ^ 8 ≤ 256 ^ k = pow-le-pow_right (omega arith) wide in
    let same : n ≡ 0 * 256 ^ k + n = omega arith in
    ap (λ m. m % 256 ^ k) same ∙ mod-mul-add 0 (256 ^ k) n (omega (arith, small, more))
