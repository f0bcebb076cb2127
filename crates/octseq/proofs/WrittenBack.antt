-- Octets are the octets of their value.
use Rattle.std.proofs.Common.{◌≡◌, ℕ, zero, suc, ◌+◌, ◌*◌, ◌^◌, ◌/◌, ◌%◌, ◌<◌, List, []}
use Rattle.std.proofs.Common.{◌∷◌, ◌++◌, length, reverse, refl, sym, ap, ◌∙◌, subst, arith}
use Rattle.std.proofs.lemmas.Int.{ints}
use Rattle.std.proofs.lemmas.List.{reverse-reverse, length-reverse}
use Rattle.std.proofs.lemmas.Nat.{div-mul-add, mul-add-lt}
use Rattle.std.proofs.Math.Nat.{pow-suc, mul_comm, mul_assoc, mul-add-div_right}
use Rattle.std.specs.Int.{w8, w16, w32, w64, w128, from_be_bytes, from_le_bytes, cast_signed}
use Rattle.std.specs.List.{AllByRecursion}
use Rattle.std.specs.Prelude.{slice_index}
use Rattle.octseq.specs.Integer.{be, le, octets_be, octets_le, unsigned}
use Rattle.octseq.proofs.Values.{first_3, first_6, be_1, be_2, le_2, be_3, le_3, be_4, le_4, be_6, le_6}
use Rattle.octseq.proofs.Values.{be_8, le_8, be_16, le_16, signed_1, signed_2, signed_4, signed_8, signed_16}
use Rattle.octseq.proofs.Written.{positive, be_nil, be_cons, le_reverse, each_reverse}

-- each number of the list is an octet
abbrev pub AreOctets : List ℕ → Type 0
AreOctets xs = AllByRecursion (λ octet. octet < 256) xs

-- the big-endian value of octets is less than 256 to the power of their number
pub small_be : (xs : List ℕ) → AreOctets xs → be xs < 256 ^ length xs
small_be [] each = omega (arith, be_nil)
small_be (x ∷ xs) (small, each) =
    let n = length xs in
    let rest : be xs < 256 ^ n = small_be xs each in
    let more : x * 256 ^ n + be xs < 256 ^ n * 256 = mul-add-lt x (256 ^ n) (be xs) 256 small rest in
    let power : 256 ^ suc n ≡ 256 ^ n * 256 = pow-suc 256 n in
    let cons : be (x ∷ xs) ≡ x * 256 ^ n + be xs = be_cons x xs in
    omega (arith, more, power, cons)

-- a multiple of 256 ^ k doesn't change the k octets
low_octets : (k a n : ℕ) → octets_be k (a * 256 ^ k + n) ≡ octets_be k n
unfolding octets_be
low_octets zero a n = refl
low_octets (suc k) a n =
    let scaled : a * 256 ^ suc k ≡ a * 256 * 256 ^ k = ap (λ p. a * p) (pow-suc 256 k ∙ mul_comm (256 ^ k) 256)
    ∙ sym (mul_assoc a 256 (256 ^ k)) in
    let digit : (a * 256 * 256 ^ k + n) / 256 ^ k ≡ a * 256 + n / 256 ^ k =
    mul-add-div_right (positive k) (a * 256) n in
    let first : (a * 256 * 256 ^ k + n) / 256 ^ k % 256 ≡ n / 256 ^ k % 256 = omega (arith, digit) in
    let rest : octets_be k (a * 256 * 256 ^ k + n) ≡ octets_be k n = low_octets k (a * 256) n in
    ap (λ s. (s + n) / 256 ^ k % 256 ∷ octets_be k (s + n)) scaled ∙ ap (λ x. x ∷ octets_be k (a * 256 * 256 ^ k + n))
    first ∙ ap (λ xs. n / 256 ^ k % 256 ∷ xs) rest

-- the big-endian octets of the value of octets are those octets
pub back_be : (xs : List ℕ) → AreOctets xs → octets_be (length xs) (be xs) ≡ xs
unfolding octets_be
back_be [] each = refl
back_be (x ∷ xs) (small, each) =
    let n = length xs in
    let cons : be (x ∷ xs) ≡ x * 256 ^ n + be xs = be_cons x xs in
    let digit : (x * 256 ^ n + be xs) / 256 ^ n ≡ x = div-mul-add x (256 ^ n) (be xs) (small_be xs each) in
    let first : (x * 256 ^ n + be xs) / 256 ^ n % 256 ≡ x = omega (arith, digit, small) in
    ap (octets_be (suc n)) cons ∙ ap (λ y. y ∷ octets_be n (x * 256 ^ n + be xs)) first
    ∙ ap (λ ys. x ∷ ys) (low_octets n x (be xs) ∙ back_be xs each)

-- the little-endian value of octets is the big-endian value of the reversed octets
le_turned : (xs : List ℕ) → le xs ≡ be (reverse xs)
le_turned xs = ap le (sym (reverse-reverse xs)) ∙ le_reverse (reverse xs)

-- and so is the little-endian value
pub small_le : (xs : List ℕ) → AreOctets xs → le xs < 256 ^ length xs
small_le xs each =
    subst (λ n. n < 256 ^ length xs) (sym (le_turned xs)) (subst (λ k. be (reverse xs) < 256 ^ k) (length-reverse xs)
    (small_be (reverse xs) (each_reverse xs each)))

-- the little-endian octets of the value of octets are those octets
pub back_le : (xs : List ℕ) → AreOctets xs → octets_le (length xs) (le xs) ≡ xs
unfolding octets_le
back_le xs each =
    let turned = le_turned xs in
    let count : length xs ≡ length (reverse xs) = sym (length-reverse xs) in
    ap (λ n. reverse (octets_be (length xs) n)) turned ∙ ap (λ k. reverse (octets_be k (be (reverse xs)))) count
    ∙ ap reverse (back_be (reverse xs) (each_reverse xs each)) ∙ reverse-reverse xs

-- the same for octets whose number is known
pub as_be : (k : ℕ) (xs : List ℕ) → length xs ≡ k → AreOctets xs → octets_be k (be xs) ≡ xs
as_be k xs many each = subst (λ k. octets_be k (be xs) ≡ xs) many (back_be xs each)

-- and little-endian
pub as_le : (k : ℕ) (xs : List ℕ) → length xs ≡ k → AreOctets xs → octets_le k (le xs) ≡ xs
as_le k xs many each = subst (λ k. octets_le k (le xs) ≡ xs) many (back_le xs each)

-- ---- the widths that integers have

-- the octet, big-endian, of what std reads from one octet are that octet
pub back_be_1 : (xs : List ℕ) → length xs ≡ 1 → AreOctets xs → octets_be 1 (slice_index xs 0) ≡ xs
back_be_1 xs many each = ap (octets_be 1) (be_1 xs many) ∙ as_be 1 xs many each

-- the 2 octets, big-endian, of what std reads from 2 octets are those octets
pub back_be_2 : (xs : List ℕ) → length xs ≡ 2 → AreOctets xs → octets_be 2 (from_be_bytes w16 xs) ≡ xs
back_be_2 xs many each = ap (octets_be 2) (be_2 xs many) ∙ as_be 2 xs many each

-- the 2 octets, little-endian, of what std reads from 2 octets are those octets
pub back_le_2 : (xs : List ℕ) → length xs ≡ 2 → AreOctets xs → octets_le 2 (from_le_bytes w16 xs) ≡ xs
back_le_2 xs many each = ap (octets_le 2) (le_2 xs many) ∙ as_le 2 xs many each

-- the 3 octets, big-endian, of what std reads from 3 octets are those octets
pub back_be_3 : (xs : List ℕ) → length xs ≡ 3 → AreOctets xs → octets_be 3 (from_be_bytes w32 (0 ∷ first_3 xs)) ≡ xs
back_be_3 xs many each = ap (octets_be 3) (be_3 xs many) ∙ as_be 3 xs many each

-- the 3 octets, little-endian, of what std reads from 3 octets are those octets
pub back_le_3 : (xs : List ℕ) → length xs ≡ 3 → AreOctets xs → octets_le 3 (from_le_bytes w32 (first_3 xs ++ 0 ∷ []))
    ≡ xs
back_le_3 xs many each = ap (octets_le 3) (le_3 xs many) ∙ as_le 3 xs many each

-- the 4 octets, big-endian, of what std reads from 4 octets are those octets
pub back_be_4 : (xs : List ℕ) → length xs ≡ 4 → AreOctets xs → octets_be 4 (from_be_bytes w32 xs) ≡ xs
back_be_4 xs many each = ap (octets_be 4) (be_4 xs many) ∙ as_be 4 xs many each

-- the 4 octets, little-endian, of what std reads from 4 octets are those octets
pub back_le_4 : (xs : List ℕ) → length xs ≡ 4 → AreOctets xs → octets_le 4 (from_le_bytes w32 xs) ≡ xs
back_le_4 xs many each = ap (octets_le 4) (le_4 xs many) ∙ as_le 4 xs many each

-- the 6 octets, big-endian, of what std reads from 6 octets are those octets
pub back_be_6 : (xs : List ℕ) → length xs ≡ 6 → AreOctets xs → octets_be 6 (from_be_bytes w64 (0 ∷ 0 ∷ first_6 xs)) ≡ xs
back_be_6 xs many each = ap (octets_be 6) (be_6 xs many) ∙ as_be 6 xs many each

-- the 6 octets, little-endian, of what std reads from 6 octets are those octets
pub back_le_6 : (xs : List ℕ) → length xs ≡ 6 → AreOctets xs
    → octets_le 6 (from_le_bytes w64 (first_6 xs ++ 0 ∷ 0 ∷ [])) ≡ xs
back_le_6 xs many each = ap (octets_le 6) (le_6 xs many) ∙ as_le 6 xs many each

-- the 8 octets, big-endian, of what std reads from 8 octets are those octets
pub back_be_8 : (xs : List ℕ) → length xs ≡ 8 → AreOctets xs → octets_be 8 (from_be_bytes w64 xs) ≡ xs
back_be_8 xs many each = ap (octets_be 8) (be_8 xs many) ∙ as_be 8 xs many each

-- the 8 octets, little-endian, of what std reads from 8 octets are those octets
pub back_le_8 : (xs : List ℕ) → length xs ≡ 8 → AreOctets xs → octets_le 8 (from_le_bytes w64 xs) ≡ xs
back_le_8 xs many each = ap (octets_le 8) (le_8 xs many) ∙ as_le 8 xs many each

-- the 16 octets, big-endian, of what std reads from 16 octets are those octets
pub back_be_16 : (xs : List ℕ) → length xs ≡ 16 → AreOctets xs → octets_be 16 (from_be_bytes w128 xs) ≡ xs
back_be_16 xs many each = ap (octets_be 16) (be_16 xs many) ∙ as_be 16 xs many each

-- the 16 octets, little-endian, of what std reads from 16 octets are those octets
pub back_le_16 : (xs : List ℕ) → length xs ≡ 16 → AreOctets xs → octets_le 16 (from_le_bytes w128 xs) ≡ xs
back_le_16 xs many each = ap (octets_le 16) (le_16 xs many) ∙ as_le 16 xs many each

-- the sum of the octets of what std casts 8 bits to is those bits
pub unsigned_1 : (n : ℕ) → n < 2 ^ 8 → unsigned 1 (cast_signed w8 n) ≡ n
unfolding unsigned
unsigned_1 n small = grind (arith, ints)

-- the sum of the octets of what std casts 16 bits to is those bits
pub unsigned_2 : (n : ℕ) → n < 2 ^ 16 → unsigned 2 (cast_signed w16 n) ≡ n
unfolding unsigned
unsigned_2 n small = grind (arith, ints)

-- the sum of the octets of what std casts 32 bits to is those bits
pub unsigned_4 : (n : ℕ) → n < 2 ^ 32 → unsigned 4 (cast_signed w32 n) ≡ n
unfolding unsigned
unsigned_4 n small = grind (arith, ints)

-- the sum of the octets of what std casts 64 bits to is those bits
pub unsigned_8 : (n : ℕ) → n < 2 ^ 64 → unsigned 8 (cast_signed w64 n) ≡ n
unfolding unsigned
unsigned_8 n small = grind (arith, ints)

-- the sum of the octets of what std casts 128 bits to is those bits
pub unsigned_16 : (n : ℕ) → n < 2 ^ 128 → unsigned 16 (cast_signed w128 n) ≡ n
unfolding unsigned
unsigned_16 n small = grind (arith, ints)

-- how one octet is read
pub ruleset read_1 = (be_1, signed_1, back_be_1, unsigned_1)

-- how 2 octets are read
pub ruleset read_2 = (be_2, le_2, signed_2, back_be_2, back_le_2, unsigned_2)

-- how 3 octets are read
pub ruleset read_3 = (be_3, le_3, back_be_3, back_le_3)

-- how 4 octets are read
pub ruleset read_4 = (be_4, le_4, signed_4, back_be_4, back_le_4, unsigned_4)

-- how 6 octets are read
pub ruleset read_6 = (be_6, le_6, back_be_6, back_le_6)

-- how 8 octets are read
pub ruleset read_8 = (be_8, le_8, signed_8, back_be_8, back_le_8, unsigned_8)

-- how 16 octets are read
pub ruleset read_16 = (be_16, le_16, signed_16, back_be_16, back_le_16, unsigned_16)
