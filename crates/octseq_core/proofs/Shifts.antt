-- Octets by their two ends, and those of a number that is shifted to the right.
use Rattle.std.proofs.Common.{◌≡◌, ℕ, zero, suc, ◌+◌, ◌*◌, ◌-◌, ◌^◌, ◌/◌, ◌%◌, ◌≤◌, List, [], ◌∷◌, ◌++◌, length}
use Rattle.std.proofs.Common.{get_or, take, drop}
use Rattle.std.proofs.Common.{refl, sym, ap, ◌∙◌, arith, length-take}
use Rattle.std.proofs.Math.Seq.{take-append-add}
use Rattle.std.proofs.lemmas.List.{drop_all, drop-drop, take-append-drop}
use Rattle.std.proofs.lemmas.Nat.{pow-add, shr-shr}
use Rattle.std.specs.Int.{byte_at, bytes_low_first}

-- an octet's place in bits
bits_of : (i : ℕ) → 256 ^ i ≡ 2 ^ (8 * i)
bits_of zero = refl
bits_of (suc i) =
    let next : 8 * suc i ≡ 8 + 8 * i = omega arith in
    let one : suc i ≡ 1 + i = omega arith in
    ap (λ k. 256 ^ k) one ∙ pow-add 256 1 i ∙ ap (λ p. 256 ^ 1 * p) (bits_of i) ∙ sym (pow-add 2 8 (8 * i))
    ∙ ap (λ k. 2 ^ k) (sym next)

-- an octet by a shift
by_shift : (i n : ℕ) → byte_at i n ≡ n / 2 ^ (8 * i) % 256
by_shift zero n = grind arith
by_shift (suc i) n = ap (λ p. n / p % 256) (bits_of (suc i))

shifted : (i m n : ℕ) → byte_at i (n / 2 ^ (8 * m)) ≡ byte_at (i + m) n
shifted i m n =
    let place : 8 * m + 8 * i ≡ 8 * (i + m) = omega arith in
    by_shift i (n / 2 ^ (8 * m)) ∙ ap (λ q. q % 256) (shr-shr n (8 * m) (8 * i) ∙ ap (λ k. n / 2 ^ k) place)
    ∙ sym (by_shift (i + m) n)

all_shifted : (i k m n : ℕ) → bytes_low_first i k (n / 2 ^ (8 * m)) ≡ bytes_low_first (i + m) k n
all_shifted i zero m n = refl
all_shifted i (suc k) m n =
    let next : suc i + m ≡ suc (i + m) = omega arith in
    ap (λ b. b ∷ bytes_low_first (suc i) k (n / 2 ^ (8 * m))) (shifted i m n)
    ∙ ap (λ o. byte_at (i + m) n ∷ o) (all_shifted (suc i) k m n ∙ ap (λ j. bytes_low_first j k n) next)

dropped : (i k m n : ℕ) → drop m (bytes_low_first i (m + k) n) ≡ bytes_low_first (i + m) k n
dropped i k zero n =
    let none : 0 + k ≡ k = omega arith in
    let here : i ≡ i + 0 = omega arith in
    ap (λ j. bytes_low_first i j n) none ∙ ap (λ j. bytes_low_first j k n) here
dropped i k (suc m) n =
    let more : suc m + k ≡ suc (m + k) = omega arith in
    let next : suc i + m ≡ i + suc m = omega arith in
    ap (λ j. drop (suc m) (bytes_low_first i j n)) more ∙ dropped (suc i) k m n
    ∙ ap (λ j. bytes_low_first j k n) next

taken : (i k m n : ℕ) → take k (bytes_low_first i (k + m) n) ≡ bytes_low_first i k n
taken i zero m n = refl
taken i (suc k) m n =
    let more : suc k + m ≡ suc (k + m) = omega arith in
    ap (λ j. take (suc k) (bytes_low_first i j n)) more ∙ ap (λ o. byte_at i n ∷ o) (taken (suc i) k m n)

-- shifted by m octets, it begins with those after the first m
pub begins_after : (k m n : ℕ) → m ≤ k
    → take (k - m) (bytes_low_first 0 k (n / 2 ^ (8 * m))) ≡ drop m (bytes_low_first 0 k n)
begins_after k m n few =
    let one : k ≡ (k - m) + m = omega arith in
    let other : k ≡ m + (k - m) = omega arith in
    ap (λ j. take (k - m) (bytes_low_first 0 j (n / 2 ^ (8 * m)))) one ∙ taken 0 (k - m) m (n / 2 ^ (8 * m))
    ∙ all_shifted 0 (k - m) m n ∙ sym (dropped 0 (k - m) m n)
    ∙ ap (λ j. drop m (bytes_low_first 0 j n)) (sym other)

-- nothing is after the last octet
pub none_after : (k m : ℕ) (x y : List ℕ) → k ≤ m → length y ≤ m → take (k - m) x ≡ drop m y
none_after k m x y past few =
    let none : k - m ≡ 0 = omega arith in ap (λ n. take n x) none ∙ sym (drop_all m y few)

-- The first k octets and, after them, the last k without those that are among the first.
pub joined : (k : ℕ) (x first last rest : List ℕ) → k ≤ length x → length x ≤ k + k → first ≡ take k x
    → last ≡ drop (length x - k) x → take (k - (k + k - length x)) rest ≡ drop (k + k - length x) last
    → take (length x) (first ++ rest) ≡ x
joined k x first last rest some few front back after =
    let long : length first ≡ k = ap length front ∙ omega (arith, length-take k x) in
    let place : length x - k + (k + k - length x) ≡ k = omega arith in
    let more : length x ≡ length first + (k - (k + k - length x)) = omega arith in
    let tail : take (k - (k + k - length x)) rest ≡ drop k x =
    after ∙ ap (λ l. drop (k + k - length x) l) back ∙ drop-drop (k + k - length x) (length x - k) x
    ∙ ap (λ n. drop n x) place in
    ap (λ n. take n (first ++ rest)) more ∙ take-append-add first rest (k - (k + k - length x))
    ∙ ap (λ o. first ++ o) tail ∙ ap (λ o. o ++ drop k x) front ∙ take-append-drop k x

-- eight octets by their places, before others
pub listed : (x rest : List ℕ) → length x ≡ 8 → get_or x 0 0 ∷ get_or x 1 0 ∷ get_or x 2 0 ∷ get_or x 3 0
    ∷ get_or x 4 0 ∷ get_or x 5 0 ∷ get_or x 6 0 ∷ get_or x 7 0 ∷ rest ≡ x ++ rest
listed (a ∷ b ∷ c ∷ d ∷ e ∷ f ∷ g ∷ h ∷ []) rest long = refl
listed [] rest long = absurd (omega (arith, long))
listed (a ∷ []) rest long = absurd (omega (arith, long))
listed (a ∷ b ∷ []) rest long = absurd (omega (arith, long))
listed (a ∷ b ∷ c ∷ []) rest long = absurd (omega (arith, long))
listed (a ∷ b ∷ c ∷ d ∷ []) rest long = absurd (omega (arith, long))
listed (a ∷ b ∷ c ∷ d ∷ e ∷ []) rest long = absurd (omega (arith, long))
listed (a ∷ b ∷ c ∷ d ∷ e ∷ f ∷ []) rest long = absurd (omega (arith, long))
listed (a ∷ b ∷ c ∷ d ∷ e ∷ f ∷ g ∷ []) rest long = absurd (omega (arith, long))
listed (a ∷ b ∷ c ∷ d ∷ e ∷ f ∷ g ∷ h ∷ i ∷ x) rest long = absurd (omega (arith, long))
