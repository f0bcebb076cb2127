-- The octets of an integer have that integer as their value.
use Rattle.std.proofs.Common.{◌≡◌, ℕ, zero, suc, ℤ, pos, negsuc, ◌+◌, ◌-◌, ◌*◌, ◌^◌, ◌/◌, ◌%◌, ◌<◌, List, []}
use Rattle.std.proofs.Common.{◌∷◌, ◌++◌, length, reverse, Option, Bool, Fits, refl, sym, subst, ap, ◌∙◌, arith}
use Rattle.std.proofs.lemmas.Int.{ints}
use Rattle.std.proofs.lemmas.List.{reverse-append, length-reverse}
use Rattle.std.proofs.Math.Arith.{mod-mul}
use Rattle.std.proofs.Math.Facts.{Fits-lt-pow}
use Rattle.std.proofs.Math.Nat.{pow-suc, mod-eq_of_lt, mul_comm}
use Rattle.std.specs.List.{AllByRecursion}
use Rattle.std.specs.Prelude.{slice_index, slice_range, FitsSigned, Result}
use Rattle.std.specs.Int.{w8, w16, w32, w64, w128, cast_unsigned, to_be_bytes}
use Rattle.std.specs.Int.{to_le_bytes, bytes_low_first, bytes_high_first, byte_at}
use Rattle.octseq_core.specs.Appends.{Appends}
use Rattle.octseq_core.specs.declared.builder.AppendError.{AppendError}
use Rattle.octseq.specs.Composer.{AreOctetsOf}
use Rattle.octseq.specs.Integer.{sum_of_first, be, le, signed, octets_be, octets_le, IsSigned, unsigned}

-- a power of 256 is positive
pub positive : (k : ℕ) → 0 < 256 ^ k
positive zero = omega arith
positive (suc k) = let p = positive k in let e = pow-suc 256 k in omega arith

-- ---- sums

-- a sum with its first term separate
sum_first : (k : ℕ) (t : ℕ → ℕ) → sum_of_first (suc k) t ≡ t 0 + sum_of_first k (λ i. t (suc i))
sum_first zero t = omega arith
sum_first (suc k) t = let before = sum_first k t in omega arith

same_sum : (k : ℕ) (f g : ℕ → ℕ) → ((i : ℕ) → f i ≡ g i) → sum_of_first k f ≡ sum_of_first k g
same_sum zero f g same = refl
same_sum (suc k) f g same =
    let before : sum_of_first k f ≡ sum_of_first k g = same_sum k f g same in
    let last : f k ≡ g k = same k in
    omega arith

scaled : (k : ℕ) (f : ℕ → ℕ) → sum_of_first k (λ i. f i * 256 ^ suc i) ≡ 256 * sum_of_first k (λ i. f i * 256 ^ i)
scaled zero f = refl
scaled (suc k) f =
    let before = scaled k f in
    let here : f k * 256 ^ suc k ≡ f k * (256 ^ k * 256) = ap (λ p. f k * p) (pow-suc 256 k) in
    omega (arith, before, here)

-- ---- the value with one more octet

-- no octets have the value 0
pub be_nil : be [] ≡ 0
unfolding be
be_nil = refl

le_nil : le [] ≡ 0
unfolding le
le_nil = refl

-- the first of big-endian octets has the weight 256 to the power of the number of octets after it
pub be_cons : (x : ℕ) (xs : List ℕ) → be (x ∷ xs) ≡ x * 256 ^ length xs + be xs
unfolding be
be_cons x xs =
    let n = length xs in
    sum_first n (λ i. slice_index (x ∷ xs) i * 256 ^ (suc n - 1 - i))
    ∙ (let head : suc n - 1 - 0 ≡ n = omega arith in
    let tail = same_sum n (λ i. slice_index xs i * 256 ^ (suc n - 1 - suc i))
    (λ i. slice_index xs i * 256 ^ (n - 1 - i))
    (λ i. let e : suc n - 1 - suc i ≡ n - 1 - i = omega arith in ap (λ e. slice_index xs i * 256 ^ e) e) in
    let first : x * 256 ^ (suc n - 1 - 0) ≡ x * 256 ^ n = ap (λ e. x * 256 ^ e) head in
    omega (arith, first, tail))

le_cons : (x : ℕ) (xs : List ℕ) → le (x ∷ xs) ≡ x + 256 * le xs
unfolding le
le_cons x xs =
    let n = length xs in
    sum_first n (λ i. slice_index (x ∷ xs) i * 256 ^ i)
    ∙ (let tail = scaled n (λ i. slice_index xs i) in omega (arith, tail))

-- the last of little-endian octets has the weight 256 to the power of the number of octets before it
pub le_snoc : (xs : List ℕ) (x : ℕ) → le (xs ++ x ∷ []) ≡ le xs + x * 256 ^ length xs
le_snoc [] x = let last = le_cons x [] in omega (arith, last, le_nil)
le_snoc (a ∷ xs) x =
    let before : le (xs ++ x ∷ []) ≡ le xs + x * 256 ^ length xs = le_snoc xs x in
    let longer : le (a ∷ (xs ++ x ∷ [])) ≡ a + 256 * le (xs ++ x ∷ []) = le_cons a (xs ++ x ∷ []) in
    let shorter : le (a ∷ xs) ≡ a + 256 * le xs = le_cons a xs in
    let last : x * 256 ^ suc (length xs) ≡ x * (256 ^ length xs * 256) = ap (λ p. x * p) (pow-suc 256 (length xs)) in
    omega (arith, before, longer, shorter, last)

reverse_cons : (x : ℕ) (xs : List ℕ) → reverse (x ∷ xs) ≡ reverse xs ++ x ∷ []
reverse_cons x xs = reverse-append (x ∷ []) xs

-- reversed octets have as their little-endian value the big-endian value of the octets
pub le_reverse : (xs : List ℕ) → le (reverse xs) ≡ be xs
le_reverse [] = le_nil ∙ sym be_nil
le_reverse (x ∷ xs) =
    let before : le (reverse xs) ≡ be xs = le_reverse xs in
    let last : le (reverse xs ++ x ∷ []) ≡ le (reverse xs) + x * 256 ^ length (reverse xs) = le_snoc (reverse xs) x in
    let long : x * 256 ^ length (reverse xs) ≡ x * 256 ^ length xs = ap (λ n. x * 256 ^ n) (length-reverse xs) in
    let cons : be (x ∷ xs) ≡ x * 256 ^ length xs + be xs = be_cons x xs in
    ap le (reverse_cons x xs) ∙ omega (arith, before, last, long, cons)

-- ---- the octets of an integer

-- the number of one octet is that octet
pub be_one : (n : ℕ) → be (n ∷ []) ≡ n
unfolding be
be_one n = omega arith

-- a number has k big-endian octets
pub length_be : (k n : ℕ) → length (octets_be k n) ≡ k
unfolding octets_be
length_be zero n = refl
length_be (suc k) n = ap suc (length_be k n)

-- a number has k little-endian octets
pub length_le : (k n : ℕ) → length (octets_le k n) ≡ k
unfolding octets_le
length_le k n = length-reverse (octets_be k n) ∙ length_be k n

be_modulo : (k n : ℕ) → be (octets_be k n) ≡ n % 256 ^ k
unfolding octets_be
be_modulo zero n = omega (arith, be_nil)
be_modulo (suc k) n =
    let rest : be (octets_be k n) ≡ n % 256 ^ k = be_modulo k n in
    let octet = n / 256 ^ k % 256 in
    let power : 256 ^ suc k ≡ 256 * 256 ^ k = pow-suc 256 k ∙ mul_comm (256 ^ k) 256 in
    let split : n % (256 * 256 ^ k) ≡ octet * 256 ^ k + n % 256 ^ k = mod-mul n (omega arith) (positive k) in
    let cons : be (octet ∷ octets_be k n) ≡ octet * 256 ^ k + be (octets_be k n) =
    be_cons octet (octets_be k n) ∙ ap (λ e. octet * 256 ^ e + be (octets_be k n)) (length_be k n) in
    let sums : be (octet ∷ octets_be k n) ≡ n % (256 * 256 ^ k) = omega (arith, rest, split, cons) in
    sums ∙ ap (λ m. n % m) (sym power)

-- the big-endian octets of a number that fits them have its value
pub value_be : (k n : ℕ) → n < 256 ^ k → be (octets_be k n) ≡ n
value_be k n fits = be_modulo k n ∙ mod-eq_of_lt fits

-- the little-endian octets of a number that fits them have its value
pub value_le : (k n : ℕ) → n < 256 ^ k → le (octets_le k n) ≡ n
unfolding octets_le
value_le k n fits = le_reverse (octets_be k n) ∙ value_be k n fits

each_be : (k n : ℕ) → AllByRecursion (λ octet. octet < 256) (octets_be k n)
unfolding octets_be
each_be zero n = tt
each_be (suc k) n = let small : n / 256 ^ k % 256 < 256 = omega arith in (small, each_be k n)

each_snoc : (xs : List ℕ) (x : ℕ) → AllByRecursion (λ octet. octet < 256) xs → x < 256
    → AllByRecursion (λ octet. octet < 256) (xs ++ x ∷ [])
each_snoc [] x each small = (small, tt)
each_snoc (a ∷ xs) x (first, each) small = (first, each_snoc xs x each small)

-- reversed octets are octets
pub each_reverse : (xs : List ℕ) → AllByRecursion (λ octet. octet < 256) xs
    → AllByRecursion (λ octet. octet < 256) (reverse xs)
each_reverse [] each = tt
each_reverse (x ∷ xs) (small, each) = rw (reverse_cons x xs) (each_snoc (reverse xs) x (each_reverse xs each) small)

each_le : (k n : ℕ) → AllByRecursion (λ octet. octet < 256) (octets_le k n)
unfolding octets_le
each_le k n = each_reverse (octets_be k n) (each_be k n)

-- ---- signed integers

-- a signed number and the sum of its octets determine each other
pub signed_unsigned : (k : ℕ) (z : ℤ) → IsSigned k z → (unsigned k z < 256 ^ k) × (signed k (unsigned k z) ≡ z)
unfolding signed unsigned
signed_unsigned k (pos n) fits = (omega arith, grind (arith, ints))
signed_unsigned k (negsuc n) fits = (omega arith, grind (arith, ints))

-- ---- std's words

octet_is : (i n : ℕ) → byte_at i n ≡ n / 256 ^ i % 256
octet_is zero n = omega arith
octet_is (suc i) n = refl

made_be : (k n : ℕ) → bytes_high_first k n ≡ octets_be k n
unfolding octets_be
made_be zero n = refl
made_be (suc k) n = ap (λ octet. octet ∷ bytes_high_first k n) (octet_is k n)
    ∙ ap (λ octets. n / 256 ^ k % 256 ∷ octets) (made_be k n)

low_snoc : (i k n : ℕ) → bytes_low_first i (suc k) n ≡ bytes_low_first i k n ++ byte_at (k + i) n ∷ []
low_snoc i zero n = let same : i ≡ 0 + i = omega arith in ap (λ j. byte_at j n ∷ []) same
low_snoc i (suc k) n =
    let next : k + suc i ≡ suc k + i = omega arith in
    ap (λ octets. byte_at i n ∷ octets) (low_snoc (suc i) k n)
    ∙ ap (λ j. byte_at i n ∷ (bytes_low_first (suc i) k n ++ byte_at j n ∷ [])) next

low_is : (k n : ℕ) → bytes_low_first 0 k n ≡ reverse (bytes_high_first k n)
low_is zero n = refl
low_is (suc k) n =
    let same : k + 0 ≡ k = omega arith in
    low_snoc 0 k n ∙ ap (λ j. bytes_low_first 0 k n ++ byte_at j n ∷ []) same
    ∙ ap (λ octets. octets ++ byte_at k n ∷ []) (low_is k n) ∙ sym (reverse_cons (byte_at k n) (bytes_high_first k n))

made_le : (k n : ℕ) → bytes_low_first 0 k n ≡ octets_le k n
unfolding octets_le
made_le k n = low_is k n ∙ ap reverse (made_be k n)

-- ---- what an append ensures

-- an append of a slice is an append of octets that the slice equals
pub appends : {limit : Option ℕ} {asks : Bool} {result : Result (Unit {0}) AppendError} {slice octets old new : List ℕ}
    → slice ≡ octets
    → Appends limit asks result slice old new → Appends limit asks result octets old new
appends {limit} {asks} {result} {slice} {octets} {old} {new} same appended =
    subst (λ octets. Appends limit asks result octets old new) same appended

-- ---- the widths that integers have

-- a number of 8 bits is its own octet
pub made_be_1 : (n : ℕ) → Fits w8 n → n ∷ [] ≡ octets_be 1 n
unfolding octets_be
made_be_1 n fits = let small : n < 2 ^ 8 = Fits-lt-pow fits in let same : n ≡ n / 256 ^ 0 % 256 = omega arith in
    ap (λ octet. octet ∷ []) same

-- the octets that std makes of 16 bits, big-endian, are the 2 octets of the number
pub made_be_2 : (n : ℕ) → to_be_bytes w16 n ≡ octets_be 2 n
made_be_2 n = made_be 2 n

-- the octets that std makes of 32 bits, big-endian, are the 4 octets of the number
pub made_be_4 : (n : ℕ) → to_be_bytes w32 n ≡ octets_be 4 n
made_be_4 n = made_be 4 n

-- the octets that std makes of 64 bits, big-endian, are the 8 octets of the number
pub made_be_8 : (n : ℕ) → to_be_bytes w64 n ≡ octets_be 8 n
made_be_8 n = made_be 8 n

-- the octets that std makes of 128 bits, big-endian, are the 16 octets of the number
pub made_be_16 : (n : ℕ) → to_be_bytes w128 n ≡ octets_be 16 n
made_be_16 n = made_be 16 n

-- the octets that std makes of 16 bits, little-endian, are the 2 octets of the number
pub made_le_2 : (n : ℕ) → to_le_bytes w16 n ≡ octets_le 2 n
made_le_2 n = made_le 2 n

-- the octets that std makes of 32 bits, little-endian, are the 4 octets of the number
pub made_le_4 : (n : ℕ) → to_le_bytes w32 n ≡ octets_le 4 n
made_le_4 n = made_le 4 n

-- the octets that std makes of 64 bits, little-endian, are the 8 octets of the number
pub made_le_8 : (n : ℕ) → to_le_bytes w64 n ≡ octets_le 8 n
made_le_8 n = made_le 8 n

-- the octets that std makes of 128 bits, little-endian, are the 16 octets of the number
pub made_le_16 : (n : ℕ) → to_le_bytes w128 n ≡ octets_le 16 n
made_le_16 n = made_le 16 n

-- 3 octets and 6 octets, which are the least significant ones

-- the 3 octets of the number are cut from what std makes of 32 bits, big-endian
pub made_be_3 : (n : ℕ) → slice_range (to_be_bytes w32 n) 1 4 ≡ octets_be 3 n
made_be_3 n = made_be 3 n

-- the 3 octets of the number are cut from what std makes of 32 bits, little-endian
pub made_le_3 : (n : ℕ) → slice_range (to_le_bytes w32 n) 0 3 ≡ octets_le 3 n
made_le_3 n = made_le 3 n

-- the 6 octets of the number are cut from what std makes of 64 bits, big-endian
pub made_be_6 : (n : ℕ) → slice_range (to_be_bytes w64 n) 2 8 ≡ octets_be 6 n
made_be_6 n = made_be 6 n

-- the 6 octets of the number are cut from what std makes of 64 bits, little-endian
pub made_le_6 : (n : ℕ) → slice_range (to_le_bytes w64 n) 0 6 ≡ octets_le 6 n
made_le_6 n = made_le 6 n

-- ---- what a call's octets are

-- the big-endian octets of a number that fits are the ones that the contracts require
pub are_be : (k n : ℕ) → n < 256 ^ k → AreOctetsOf be k n (octets_be k n)
are_be k n fits = record { many = length_be k n; each = each_be k n; value = value_be k n fits }

-- the little-endian octets of a number that fits are the ones that the contracts require
pub are_le : (k n : ℕ) → n < 256 ^ k → AreOctetsOf le k n (octets_le k n)
are_le k n fits = record { many = length_le k n; each = each_le k n; value = value_le k n fits }

-- the same for a signed number, big-endian
pub are_signed_be : (k : ℕ) (z : ℤ) → IsSigned k z
    → AreOctetsOf (λ octets. signed k (be octets)) k z (octets_be k (unsigned k z))
are_signed_be k z fits =
    let sum = signed_unsigned k z fits in
    record {
      many = length_be k (unsigned k z);
      each = each_be k (unsigned k z);
      value = ap (signed k) (value_be k (unsigned k z) sum.0) ∙ sum.1;
    }

-- the same for a signed number, little-endian
pub are_signed_le : (k : ℕ) (z : ℤ) → IsSigned k z
    → AreOctetsOf (λ octets. signed k (le octets)) k z (octets_le k (unsigned k z))
are_signed_le k z fits =
    let sum = signed_unsigned k z fits in
    record {
      many = length_le k (unsigned k z);
      each = each_le k (unsigned k z);
      value = ap (signed k) (value_le k (unsigned k z) sum.0) ∙ sum.1;
    }

-- ---- the widths that integers have

-- each signed number of 8 bits fits in one octet
pub is_signed_1 : (z : ℤ) → FitsSigned w8 z → IsSigned 1 z
is_signed_1 (pos n) fits = grind (arith, ints)
is_signed_1 (negsuc n) fits = grind (arith, ints)

-- std casts a signed number of 8 bits to its octet
pub cast_1 : (z : ℤ) → FitsSigned w8 z → cast_unsigned w8 z ≡ unsigned 1 z
unfolding unsigned
cast_1 (pos n) fits = grind (arith, ints)
cast_1 (negsuc n) fits = grind (arith, ints)

-- each signed number of 16 bits fits in 2 octets
pub is_signed_2 : (z : ℤ) → FitsSigned w16 z → IsSigned 2 z
is_signed_2 (pos n) fits = grind (arith, ints)
is_signed_2 (negsuc n) fits = grind (arith, ints)

-- std casts a signed number of 16 bits to the sum of its octets
pub cast_2 : (z : ℤ) → FitsSigned w16 z → cast_unsigned w16 z ≡ unsigned 2 z
unfolding unsigned
cast_2 (pos n) fits = grind (arith, ints)
cast_2 (negsuc n) fits = grind (arith, ints)

-- each signed number of 32 bits fits in 4 octets
pub is_signed_4 : (z : ℤ) → FitsSigned w32 z → IsSigned 4 z
is_signed_4 (pos n) fits = grind (arith, ints)
is_signed_4 (negsuc n) fits = grind (arith, ints)

-- std casts a signed number of 32 bits to the sum of its octets
pub cast_4 : (z : ℤ) → FitsSigned w32 z → cast_unsigned w32 z ≡ unsigned 4 z
unfolding unsigned
cast_4 (pos n) fits = grind (arith, ints)
cast_4 (negsuc n) fits = grind (arith, ints)

-- each signed number of 64 bits fits in 8 octets
pub is_signed_8 : (z : ℤ) → FitsSigned w64 z → IsSigned 8 z
is_signed_8 (pos n) fits = grind (arith, ints)
is_signed_8 (negsuc n) fits = grind (arith, ints)

-- std casts a signed number of 64 bits to the sum of its octets
pub cast_8 : (z : ℤ) → FitsSigned w64 z → cast_unsigned w64 z ≡ unsigned 8 z
unfolding unsigned
cast_8 (pos n) fits = grind (arith, ints)
cast_8 (negsuc n) fits = grind (arith, ints)

-- each signed number of 128 bits fits in 16 octets
pub is_signed_16 : (z : ℤ) → FitsSigned w128 z → IsSigned 16 z
is_signed_16 (pos n) fits = grind (arith, ints)
is_signed_16 (negsuc n) fits = grind (arith, ints)

-- std casts a signed number of 128 bits to the sum of its octets
pub cast_16 : (z : ℤ) → FitsSigned w128 z → cast_unsigned w128 z ≡ unsigned 16 z
unfolding unsigned
cast_16 (pos n) fits = grind (arith, ints)
cast_16 (negsuc n) fits = grind (arith, ints)

-- the octet of a number of 8 bits, big-endian, has its value
pub are_be_1 : (n : ℕ) → Fits w8 n → AreOctetsOf be 1 n (octets_be 1 n)
are_be_1 n fits = are_be 1 n (Fits-lt-pow fits)

-- the octet of a signed number of 8 bits, big-endian, has its value
pub are_signed_be_1 : (z : ℤ) → FitsSigned w8 z
    → AreOctetsOf (λ octets. signed 1 (be octets)) 1 z (octets_be 1 (unsigned 1 z))
are_signed_be_1 z fits = are_signed_be 1 z (is_signed_1 z fits)

-- the 2 octets of a number of 16 bits, big-endian, have its value
pub are_be_2 : (n : ℕ) → Fits w16 n → AreOctetsOf be 2 n (octets_be 2 n)
are_be_2 n fits = are_be 2 n (Fits-lt-pow fits)

-- the 2 octets of a signed number of 16 bits, big-endian, have its value
pub are_signed_be_2 : (z : ℤ) → FitsSigned w16 z
    → AreOctetsOf (λ octets. signed 2 (be octets)) 2 z (octets_be 2 (unsigned 2 z))
are_signed_be_2 z fits = are_signed_be 2 z (is_signed_2 z fits)

-- the 2 octets of a number of 16 bits, little-endian, have its value
pub are_le_2 : (n : ℕ) → Fits w16 n → AreOctetsOf le 2 n (octets_le 2 n)
are_le_2 n fits = are_le 2 n (Fits-lt-pow fits)

-- the 2 octets of a signed number of 16 bits, little-endian, have its value
pub are_signed_le_2 : (z : ℤ) → FitsSigned w16 z
    → AreOctetsOf (λ octets. signed 2 (le octets)) 2 z (octets_le 2 (unsigned 2 z))
are_signed_le_2 z fits = are_signed_le 2 z (is_signed_2 z fits)

-- the 3 octets of a number of 24 bits, big-endian, have its value
pub are_be_3 : (n : ℕ) → n < 256 ^ 3 → AreOctetsOf be 3 n (octets_be 3 n)
are_be_3 n fits = are_be 3 n fits

-- the 3 octets of a number of 24 bits, little-endian, have its value
pub are_le_3 : (n : ℕ) → n < 256 ^ 3 → AreOctetsOf le 3 n (octets_le 3 n)
are_le_3 n fits = are_le 3 n fits

-- the 4 octets of a number of 32 bits, big-endian, have its value
pub are_be_4 : (n : ℕ) → Fits w32 n → AreOctetsOf be 4 n (octets_be 4 n)
are_be_4 n fits = are_be 4 n (Fits-lt-pow fits)

-- the 4 octets of a signed number of 32 bits, big-endian, have its value
pub are_signed_be_4 : (z : ℤ) → FitsSigned w32 z
    → AreOctetsOf (λ octets. signed 4 (be octets)) 4 z (octets_be 4 (unsigned 4 z))
are_signed_be_4 z fits = are_signed_be 4 z (is_signed_4 z fits)

-- the 4 octets of a number of 32 bits, little-endian, have its value
pub are_le_4 : (n : ℕ) → Fits w32 n → AreOctetsOf le 4 n (octets_le 4 n)
are_le_4 n fits = are_le 4 n (Fits-lt-pow fits)

-- the 4 octets of a signed number of 32 bits, little-endian, have its value
pub are_signed_le_4 : (z : ℤ) → FitsSigned w32 z
    → AreOctetsOf (λ octets. signed 4 (le octets)) 4 z (octets_le 4 (unsigned 4 z))
are_signed_le_4 z fits = are_signed_le 4 z (is_signed_4 z fits)

-- the 6 octets of a number of 48 bits, big-endian, have its value
pub are_be_6 : (n : ℕ) → n < 256 ^ 6 → AreOctetsOf be 6 n (octets_be 6 n)
are_be_6 n fits = are_be 6 n fits

-- the 6 octets of a number of 48 bits, little-endian, have its value
pub are_le_6 : (n : ℕ) → n < 256 ^ 6 → AreOctetsOf le 6 n (octets_le 6 n)
are_le_6 n fits = are_le 6 n fits

-- the 8 octets of a number of 64 bits, big-endian, have its value
pub are_be_8 : (n : ℕ) → Fits w64 n → AreOctetsOf be 8 n (octets_be 8 n)
are_be_8 n fits = are_be 8 n (Fits-lt-pow fits)

-- the 8 octets of a signed number of 64 bits, big-endian, have its value
pub are_signed_be_8 : (z : ℤ) → FitsSigned w64 z
    → AreOctetsOf (λ octets. signed 8 (be octets)) 8 z (octets_be 8 (unsigned 8 z))
are_signed_be_8 z fits = are_signed_be 8 z (is_signed_8 z fits)

-- the 8 octets of a number of 64 bits, little-endian, have its value
pub are_le_8 : (n : ℕ) → Fits w64 n → AreOctetsOf le 8 n (octets_le 8 n)
are_le_8 n fits = are_le 8 n (Fits-lt-pow fits)

-- the 8 octets of a signed number of 64 bits, little-endian, have its value
pub are_signed_le_8 : (z : ℤ) → FitsSigned w64 z
    → AreOctetsOf (λ octets. signed 8 (le octets)) 8 z (octets_le 8 (unsigned 8 z))
are_signed_le_8 z fits = are_signed_le 8 z (is_signed_8 z fits)

-- the 16 octets of a number of 128 bits, big-endian, have its value
pub are_be_16 : (n : ℕ) → Fits w128 n → AreOctetsOf be 16 n (octets_be 16 n)
are_be_16 n fits = are_be 16 n (Fits-lt-pow fits)

-- the 16 octets of a signed number of 128 bits, big-endian, have its value
pub are_signed_be_16 : (z : ℤ) → FitsSigned w128 z
    → AreOctetsOf (λ octets. signed 16 (be octets)) 16 z (octets_be 16 (unsigned 16 z))
are_signed_be_16 z fits = are_signed_be 16 z (is_signed_16 z fits)

-- the 16 octets of a number of 128 bits, little-endian, have its value
pub are_le_16 : (n : ℕ) → Fits w128 n → AreOctetsOf le 16 n (octets_le 16 n)
are_le_16 n fits = are_le 16 n (Fits-lt-pow fits)

-- the 16 octets of a signed number of 128 bits, little-endian, have its value
pub are_signed_le_16 : (z : ℤ) → FitsSigned w128 z
    → AreOctetsOf (λ octets. signed 16 (le octets)) 16 z (octets_le 16 (unsigned 16 z))
are_signed_le_16 z fits = are_signed_le 16 z (is_signed_16 z fits)

-- how one octet is written
pub ruleset written_1 = (are_be_1, made_be_1, are_signed_be_1, cast_1)

-- how 2 octets are written
pub ruleset written_2 = (are_be_2, made_be_2, are_signed_be_2, are_le_2, made_le_2, are_signed_le_2, cast_2)

-- how 3 octets are written
pub ruleset written_3 = (are_be_3, made_be_3, are_le_3, made_le_3)

-- how 4 octets are written
pub ruleset written_4 = (are_be_4, made_be_4, are_signed_be_4, are_le_4, made_le_4, are_signed_le_4, cast_4)

-- how 6 octets are written
pub ruleset written_6 = (are_be_6, made_be_6, are_le_6, made_le_6)

-- how 8 octets are written
pub ruleset written_8 = (are_be_8, made_be_8, are_signed_be_8, are_le_8, made_le_8, are_signed_le_8, cast_8)

-- how 16 octets are written
pub ruleset written_16 = (are_be_16, made_be_16, are_signed_be_16, are_le_16, made_le_16, are_signed_le_16, cast_16)
